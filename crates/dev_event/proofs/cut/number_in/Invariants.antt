use Rattle.std.proofs.Common.{◌≡◌, ◌<◌, ◌^◌, take}
use Rattle.dev_event.specs.Reading.{number_in}
use Rattle.dev_event.proofs.cut.number_in.Given as goal

abbrev pub invariant-loop-digit : goal.invariant-loop-digit
invariant-loop-digit l = (l.number ≡ number_in (take l.digit-index l.digits)) × (l.number < 2 ^ 32)
