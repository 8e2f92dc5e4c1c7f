use Rattle.std.proofs.Common.{◌≡◌, ℕ, Some, List, cond, take}
use Rattle.config_rules.specs.Select.{has_name}
use Rattle.cf_options.specs.Last.{place_of}
use Rattle.cf_options.proofs.last.note_names.Given as goal

abbrev pub invariant-loop-name : goal.invariant-loop-name
invariant-loop-name l = (q : List ℕ) → place_of l.last q ≡ cond (has_name (take l.name-index l.names) q) (Some l.place) (place_of l.initial.last q)
