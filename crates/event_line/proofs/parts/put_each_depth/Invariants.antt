use Rattle.std.proofs.Common.{◌≡◌, ◌++◌, codes, decimal, flat_map, take}
use Rattle.event_line.proofs.parts.put_each_depth.Given as goal

abbrev pub invariant-loop-one : goal.invariant-loop-one
invariant-loop-one l = l.out.items ≡ l.initial.out.items ++ flat_map (λ d. codes " " ++ decimal d.depth ++ codes " " ++ d.name) (take l.one-index l.names)
