use Rattle.std.proofs.Common.{◌≡◌, ℕ, List, map, take}
use Rattle.config_rules.specs.Select.{has_name}
use Rattle.file_select.proofs.marks.pseudo_names.Given as goal

abbrev pub invariant-loop-pseudo : goal.invariant-loop-pseudo
invariant-loop-pseudo l = (name : List ℕ) → has_name l.names name ≡ has_name (map (λ p. p.name) (take l.pseudo-index l.pseudos)) name
