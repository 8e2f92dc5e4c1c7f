use Rattle.std.proofs.Common.{◌≡◌, take, false}
use Rattle.config_rules.specs.Reading.{is_declared}
use Rattle.cf_expand.proofs.placed.is_declared.Given as goal

abbrev pub invariant-loop-one : goal.invariant-loop-one
invariant-loop-one l = is_declared (take l.one-index l.placed) l.name ≡ false
