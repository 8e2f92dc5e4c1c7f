use Rattle.std.proofs.Common.{◌≡◌, ℕ, List, ◌++◌, [], take, drop, true}
use Rattle.std.specs.List.{list_any}
use Rattle.cf_types.specs.declared.stmt.ItemKind.{ItemKind}
use Rattle.config_rules.specs.Fault.{stmts_of}
use Rattle.config_rules.specs.Meaning.{idle_items}
use Rattle.config_rules.specs.Select.{drops, takes_item}
use Rattle.cf_options.specs.ItemFlags.{stands_in}
use Rattle.cf_options.proofs.idle.idle_items.Given as goal

abbrev pub invariant-loop-i : goal.invariant-loop-i
invariant-loop-i l = record {
  known : (kind : ItemKind) (q : List ℕ) → list_any (λ p. drops kind q p.stmt) (drop l.i l.placed) ≡ true → stands_in l.flags kind q ≡ takes_item kind q (stmts_of (take l.i l.placed));
  places : l.idle ++ idle_items (stmts_of (take l.i l.placed)) (stmts_of (drop l.i l.placed)) ≡ idle_items [] (stmts_of l.placed);
}
