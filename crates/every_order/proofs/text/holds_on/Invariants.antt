use Rattle.std.proofs.Common.{◌≡◌, ◌+◌, filter, map}
use Rattle.cf_types.specs.Numbers.{below}
use Rattle.run_rules.specs.World.{holds_in}
use Rattle.run_rules.specs.References.{hold_of}
use Rattle.every_order.proofs.text.holds_on.Given as goal

abbrev pub invariant-loop-index : goal.invariant-loop-index
invariant-loop-index l =
    l.list ≡ map (hold_of l.references l.fn.sole l.serial) (filter (λ k. holds_in l.references k l.serial) (map (λ i. i + 1) (below l.index)))
