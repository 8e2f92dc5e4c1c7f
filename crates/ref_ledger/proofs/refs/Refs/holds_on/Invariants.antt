use Rattle.std.proofs.Common.{◌≡◌, ◌+◌, filter, map}
use Rattle.cf_types.specs.Numbers.{below}
use Rattle.run_rules.specs.World.{holds_in}
use Rattle.run_rules.specs.References.{hold_of}
use Rattle.ref_ledger.proofs.refs.Refs.holds_on.Given as goal

abbrev pub invariant-loop-index : goal.invariant-loop-index
invariant-loop-index l =
    l.holds ≡ map (hold_of l.self.refs l.self.sole l.serial) (filter (λ k. holds_in l.self.refs k l.serial) (map (λ i. i + 1) (below l.index)))
