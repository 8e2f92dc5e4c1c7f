use Rattle.std.proofs.Common.{◌≡◌, ◌+◌, ℕ, arith, filter, map, subst}
use Rattle.cf_types.specs.Numbers.{below}
use Rattle.run_rules.specs.World.{holds_in}
use Rattle.run_rules.specs.References.{hold_of, holds_on}
use Rattle.every_order.proofs.text.holds_on.Goals as goal

pub returns : goal.returns
unfolding holds_on
returns c =
    let done : c.loop-index.index ≡ 16 = omega arith in
    subst (λ (n : ℕ). c.loop-index.list ≡ map (hold_of c.args.references.now c.args.sole.now c.args.serial) (filter (λ k. holds_in c.args.references.now k c.args.serial) (map (λ i. i + 1) (below n))))
    done c.loop-index.invariant
