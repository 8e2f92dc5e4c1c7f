use Rattle.std.proofs.Common.{◌≡◌, ℕ, ◌+◌, List, take, drop}
use Rattle.std.specs.List.{list_any}
use Rattle.cf_types.specs.declared.stmt.ItemKind.{ItemKind}
use Rattle.config_rules.specs.Select.{drops}
use Rattle.cf_options.specs.Last.{is_behind, last_of}
use Rattle.cf_options.proofs.last.last_negations.Given as goal

abbrev pub invariant-loop-i : goal.invariant-loop-i
invariant-loop-i l = (kind : ItemKind) (k : ℕ) (q : List ℕ) → is_behind k (last_of l.last kind q) ≡ list_any (λ p. drops kind q p.stmt) (drop (k + 1) (take l.i l.placed))
