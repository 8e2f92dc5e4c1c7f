use Rattle.std.proofs.Common.{◌≡◌, ◌∙◌, ◌+◌, ◌-◌, ◌<◌, arith, ap, length, ℕ, subst, sym}
use Rattle.std.specs.List.{All}
use Rattle.cf_types.specs.Offers.{nodes_of}
use Rattle.file_select.proofs.MarkLemmas.{Spreads, adds_to, needs_are, needs_below, nodes_length, spread_all, spread_marked, spread_none, spread_unmarked}
use Rattle.file_select.proofs.marks.mark_needs.Goals as goal

pub loop-next-init : goal.loop-next-init
loop-next-init c = record { within = omega arith; spread = spread_none (nodes_of c.args.attrs.now) c.args.marks.now (length c.args.attrs.now) (omega arith) }

pub mark_all-requires : goal.mark_all-requires
mark_all-requires c =
    needs_below c.args.attrs.now (c.loop-next.next - 1) (length c.loop-next.marks) c.index-attrs-next.result c.items.result.now c.requires.earlier (omega arith) (omega arith) c.index-attrs-next.is (c.items.ensures ∙ ap (λ x. x.needs) (sym c.index-attrs-next.is))

pub loop-next-preserved-then-marks-next : goal.loop-next-preserved-then-marks-next
loop-next-preserved-then-marks-next c =
    let next : c.loop-next.next - 1 + 1 ≡ c.loop-next.next = omega arith in
    let so_far : Spreads (nodes_of c.args.attrs.now) c.args.marks.now c.loop-next.marks (c.loop-next.next - 1 + 1) = subst (λ (n : ℕ). Spreads (nodes_of c.args.attrs.now) c.args.marks.now c.loop-next.marks n) (sym next) c.loop-next.invariant.spread in
    record {
      within = omega arith;
      spread = spread_marked (nodes_of c.args.attrs.now) c.requires.earlier c.args.marks.now c.loop-next.marks c.mark_all.new.marks (c.loop-next.next - 1) so_far c.if-marks-next.true
          (adds_to _ _ c.items.result.now _ (c.items.ensures ∙ ap (λ x. x.needs) (sym c.index-attrs-next.is) ∙ sym (needs_are c.args.attrs.now (c.loop-next.next - 1) c.index-attrs-next.result (omega arith) c.index-attrs-next.is)) c.mark_all.ensures);
    }

pub loop-next-preserved : goal.loop-next-preserved
loop-next-preserved c =
    let next : c.loop-next.next - 1 + 1 ≡ c.loop-next.next = omega arith in
    let so_far : Spreads (nodes_of c.args.attrs.now) c.args.marks.now c.loop-next.marks (c.loop-next.next - 1 + 1) = subst (λ (n : ℕ). Spreads (nodes_of c.args.attrs.now) c.args.marks.now c.loop-next.marks n) (sym next) c.loop-next.invariant.spread in
    record { within = omega arith; spread = spread_unmarked (nodes_of c.args.attrs.now) c.args.marks.now c.loop-next.marks (c.loop-next.next - 1) so_far c.if-marks-next.false }

pub returns-clause-marked : goal.returns-clause-marked
returns-clause-marked c = λ wanted within same a.
    let zero_next : c.loop-next.next ≡ 0 = omega arith in
    spread_all (nodes_of c.args.attrs.now) c.args.marks.now c.loop-next.marks wanted
    (subst (λ (n : ℕ). Spreads (nodes_of c.args.attrs.now) c.args.marks.now c.loop-next.marks n) zero_next c.loop-next.invariant.spread)
    (subst (λ (n : ℕ). All (λ x. x < n) wanted) (sym (nodes_length c.args.attrs.now)) within) same a
