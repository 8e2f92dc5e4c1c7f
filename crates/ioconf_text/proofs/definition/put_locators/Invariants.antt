use Rattle.std.proofs.Common.{◌≡◌, ◌++◌, map, take}
use Rattle.config_rules.specs.Listing.{spaced, locator_text}
use Rattle.ioconf_text.proofs.definition.put_locators.Given as goal

abbrev pub invariant-loop-locator : goal.invariant-loop-locator
invariant-loop-locator l = l.out.items ≡ l.initial.out.items ++ spaced (map locator_text (take l.locator-index l.locators))
