use Rattle.std.proofs.Common.{◌≡◌, [], take, drop}
use Rattle.config_rules.specs.Joined.{pairs_fault}
use Rattle.locator_rules.proofs.values.pairs_fault.Given as goal

abbrev pub invariant-loop-i : goal.invariant-loop-i
invariant-loop-i l = pairs_fault l.locs (take l.i l.given) (drop l.i l.given) ≡ pairs_fault l.locs [] l.given
