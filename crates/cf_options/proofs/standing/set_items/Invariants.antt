use Rattle.std.proofs.Common.{◌≡◌, ℕ, List, true, cond, map, take}
use Rattle.config_rules.specs.Select.{has_name}
use Rattle.cf_options.specs.ItemFlags.{flag_of}
use Rattle.cf_options.specs.Last.{is_dropped}
use Rattle.cf_options.proofs.standing.set_items.Given as goal

abbrev pub invariant-loop-item : goal.invariant-loop-item
invariant-loop-item l = (q : List ℕ) → is_dropped l.last l.place q ≡ true → flag_of l.flags q ≡ cond (has_name (map (λ i. i.name) (take l.item-index l.items)) q) true (flag_of l.initial.flags q)
