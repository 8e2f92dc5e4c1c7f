use Rattle.std.proofs.Common.{◌≡◌, ◌+◌, ℕ, arith, filter, map, sym, subst, ◌∙◌}
use Rattle.cf_types.specs.Numbers.{below}
use Rattle.run_rules.specs.World.{holds_in}
use Rattle.run_rules.specs.References.{hold_of, holds_on}
use Rattle.ref_ledger.proofs.MaskLaws.{no_holds}
use Rattle.ref_ledger.proofs.refs.Refs.holds_on.Goals as goal

pub returns : goal.returns
unfolding holds_on
returns c =
    let done : c.loop-index.index ≡ 16 = omega arith in
    subst (λ (n : ℕ). c.loop-index.holds ≡ map (hold_of c.args.self.now.refs c.args.self.now.sole c.args.serial) (filter (λ k. holds_in c.args.self.now.refs k c.args.serial) (map (λ i. i + 1) (below n))))
    done c.loop-index.invariant

pub returns-then-not-refers : goal.returns-then-not-refers
returns-then-not-refers c = c.make-holds.ensures ∙ sym (no_holds c.args.self.now.refs c.args.self.now.sole c.args.serial (sym c.refers.ensures ∙ c.if-not-refers.true))
