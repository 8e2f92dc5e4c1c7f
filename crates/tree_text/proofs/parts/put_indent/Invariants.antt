use Rattle.std.proofs.Common.{◌≡◌, ◌++◌, codes, flat_map}
use Rattle.cf_types.specs.Numbers.{below}
use Rattle.tree_text.proofs.parts.put_indent.Given as goal

abbrev pub invariant-loop-level : goal.invariant-loop-level
invariant-loop-level l = l.out.items ≡ l.initial.out.items ++ flat_map (λ _. codes "  ") (below l._level)
