use Rattle.std.proofs.Common.{◌≡◌, take, map}
use Rattle.config_rules.specs.Joined.{filled}
use Rattle.locator_rules.proofs.values.fill.Given as goal

abbrev pub invariant-loop-locator : goal.invariant-loop-locator
invariant-loop-locator l = l.values ≡ map (filled l.given) (take l.locator-index l.locs)
