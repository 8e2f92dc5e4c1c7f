use Rattle.std.proofs.Common.{◌≡◌, ◌-◌, ◌+◌, ◌∙◌, ℕ, Some, suc, length, subst, sym, arith}
use native.Mathlib.Numerals.{unary_clauses}
use Rattle.run_rules.specs.World.{device_at}
use Rattle.run_rules.proofs.Chains.{chain_nothing}
use Rattle.pmf_order.proofs.AboveLaws.{IsLowest, lowest_asleep, lowest_awake, lowest_begins, lowest_is, nothing_left}
use Rattle.pmf_order.proofs.Numbered.{all_positive}
use Rattle.pmf_order.proofs.above.first_above.Goals as goal
use Rattle.pmf_order.proofs.above.first_above.Goals.{then-device, else-device}

pub loop-level-init : goal.loop-level-init
loop-level-init c = simp unary_clauses (lowest_begins c.args.tree.now.live c.args.target)

pub loop-level-preserved : goal.loop-level-preserved
loop-level-preserved c =
    let live = c.args.tree.now.live in
    let left = length live - (c.loop-level._level + 1) in
    let one_more : length live - c.loop-level._level ≡ suc left = omega arith in
    let so : IsLowest live c.args.target (suc left) c.loop-level.current c.loop-level.first
    = subst (λ (k : ℕ). IsLowest live c.args.target k c.loop-level.current c.loop-level.first) one_more c.loop-level.invariant in
    let at : device_at live c.loop-level.current ≡ Some c.in-Some.device = sym c.get.ensures ∙ c.in-Some.is in
    elim c.if-device.branch [
      | then-device w ↦ rw (w.first-is, w.lowest.ensures) (lowest_asleep live c.args.target left c.loop-level.current c.loop-level.first c.in-Some.device at w.if-device.true so)
      | else-device w ↦ rw w.first-is (lowest_awake live c.args.target left c.loop-level.current c.loop-level.first c.in-Some.device at w.if-device.false so)
    ]

pub returns-in_default : goal.returns-in_default
returns-in_default c =
    let live = c.args.tree.now.live in
    lowest_is live c.args.target (length live - c.loop-level._level) c.loop-level.current c.loop-level.first c.stands.ensures.later c.loop-level.invariant
    (nothing_left live (length live - c.loop-level._level) c.loop-level.current (all_positive live c.args.tree.now.next c.stands.ensures.placed)
    (sym c.get.ensures ∙ c.in_default.is))

pub returns : goal.returns
returns c =
    let live = c.args.tree.now.live in
    let none : length live - c.loop-level._level ≡ 0 = omega arith in
    lowest_is live c.args.target (length live - c.loop-level._level) c.loop-level.current c.loop-level.first c.stands.ensures.later c.loop-level.invariant
    (λ s asleep. chain_nothing live (length live - c.loop-level._level) c.loop-level.current s none)
