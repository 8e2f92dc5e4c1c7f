use Rattle.std.proofs.Common.{◌≡◌, length}
use Rattle.cf_types.specs.Locators.{submatch}
use Rattle.locator_rules.proofs.fits.submatch.Given as goal

abbrev pub invariant-loop-locators : goal.invariant-loop-locators
invariant-loop-locators l = submatch l.locators l.values l.actual ≡ submatch l.attr.locs l.fn.row l.fn.found

abbrev pub decreases-loop-locators : goal.decreases-loop-locators
decreases-loop-locators l = length l.locators
