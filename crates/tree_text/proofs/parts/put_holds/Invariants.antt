use Rattle.std.proofs.Common.{◌≡◌, ◌++◌, flat_map, take}
use Rattle.run_rules.specs.Tree.{hold_text}
use Rattle.tree_text.proofs.parts.put_holds.Given as goal

abbrev pub invariant-loop-hold : goal.invariant-loop-hold
invariant-loop-hold l = l.out.items ≡ l.initial.out.items ++ flat_map hold_text (take l.hold-index l.holders)
