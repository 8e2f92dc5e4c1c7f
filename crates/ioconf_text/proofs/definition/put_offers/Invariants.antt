use Rattle.std.proofs.Common.{◌≡◌, ◌++◌, map, take}
use Rattle.std.specs.Prelude.{codes}
use Rattle.config_rules.specs.Listing.{spaced, attr_name}
use Rattle.ioconf_text.proofs.definition.put_offers.Given as goal

abbrev pub invariant-loop-attr : goal.invariant-loop-attr
invariant-loop-attr l = l.out.items ≡ l.fn.out.items ++ codes " offers" ++ spaced (map (attr_name l.tables) (take l.attr-index l.interfaces))
