use Rattle.std.proofs.Common.{◌≡◌, take}
use Rattle.cf_declare.proofs.entry.copied_locators.Given as goal

abbrev pub invariant-loop-locator : goal.invariant-loop-locator
invariant-loop-locator l = l.copy.items ≡ take l.locator-index l.locators
