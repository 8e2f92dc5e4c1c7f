use Rattle.std.proofs.Common.{◌≡◌, ℕ, List, true, cond, take}
use Rattle.config_rules.specs.Select.{has_name}
use Rattle.cf_options.specs.ItemFlags.{flag_of}
use Rattle.cf_options.specs.Last.{is_dropped}
use Rattle.cf_options.proofs.standing.set_names.Given as goal

abbrev pub invariant-loop-name : goal.invariant-loop-name
invariant-loop-name l = (q : List ℕ) → is_dropped l.last l.place q ≡ true → flag_of l.flags q ≡ cond (has_name (take l.name-index l.names) q) l.stands (flag_of l.initial.flags q)
