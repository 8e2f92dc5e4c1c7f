use Rattle.std.proofs.Common.{◌≡◌, ◌++◌, map, take}
use Rattle.std.specs.List.{enumerate_from}
use Rattle.config_rules.specs.Listing.{spaced, value_text}
use Rattle.ioconf_text.proofs.row.put_values.Given as goal

abbrev pub invariant-loop-n : goal.invariant-loop-n
invariant-loop-n l = l.out.items ≡ l.initial.out.items ++ spaced (map (value_text l.locators) (enumerate_from 0 (take l.n l.values)))
