use Rattle.std.proofs.Common.{◌≡◌, ◌-◌, ◌^◌, ℕ, true, false, sym, ap, ◌∙◌, subst, arith, rules}
use Rattle.std.specs.Prelude.{bit_or}
use Rattle.atomic_table.specs.Table.{Allows}
use Rattle.lease_table.specs.Leases.{Took, gained_from, showing, with_claim}
use Rattle.lease_table.specs.Words.{said}
use Rattle.lease_table.specs.declared.view.SlotWord.{SlotWord}
use Rattle.lease_table.proofs.Keeps.{takes, fails, rule}
use Rattle.lease_table.proofs.table.LeaseTable.take.Goals as goal

pub fetch_or-word-requires : goal.fetch_or-word-requires
fetch_or-word-requires c =
    let t = c.self.inside in
    let s = c.seat.inside.seat in
    let wide = c.self.invariant in
    let words = ap (λ z. z.words) c.self.view_is in
    let slot = c.requires.slot in
    let mine = c.seat.invariant.0 in
    let some = c.seat.invariant.1 in
    let bit : 2 ^ (s.me.0.standing.number - 1) ≡ c.own_bit-bit.result = ap (λ z. 2 ^ (z - 1)) mine ∙ sym c.own_bit-bit.ensures in (
      ap (λ z. z.table) c.seat.view_is ∙ (c.requires.table ∙ sym c.self.view_is),
      omega arith,
      subst (λ (k : ℕ). Allows (rule t.table.shared.key) t.table.shared.table_id.slots s.id s.me c.args.slot (λ x. bit_or x k) (λ x m. Took c.args.slot s.me.0 (said x) m.0)) bit
          (takes t.table.shared.key t.table.shared.table_id.slots s.id s.me.0 s.me.1 c.args.slot (omega arith) (omega arith)),
    )

pub returns-then-said-clause-taken : goal.returns-then-said-clause-taken
returns-then-said-clause-taken c =
    let word = said c.fetch_or-word.result in
    let f = fails c.args.seat.now.view c.fetch_or-word.new.seat.me.0 c.clear.new.seat.view c.args.slot word (gained_from word) (c.fetch_or-word.ensures.2 ∙ ap (λ z. showing z.view (with_claim z.view.standing c.args.slot (gained_from word)) c.args.slot word) c.seat.view_is) c.clear.ensures.cleared in
    let is : c.word_of-said.result.condemned ≡ true = search rules in (
      f.1,
      ap (λ (z : SlotWord). z.condemned) (f.0 ∙ sym c.word_of-said.ensures) ∙ is,
      ap (λ (z : SlotWord). z.generation) (f.0 ∙ sym c.word_of-said.ensures),
    )

pub returns-clause-taken : goal.returns-clause-taken
returns-clause-taken c =
    let word = said c.fetch_or-word.result in
    let f = fails c.args.seat.now.view c.fetch_or-word.new.seat.me.0 c.clear-2.new.seat.view c.args.slot word (gained_from word) (c.fetch_or-word.ensures.2 ∙ ap (λ z. showing z.view (with_claim z.view.standing c.args.slot (gained_from word)) c.args.slot word) c.seat.view_is) c.clear-2.ensures.cleared in
    let is : c.word_of-said.result.live ≡ false = search rules in (
      f.1,
      ap (λ (z : SlotWord). z.live) (f.0 ∙ sym c.word_of-said.ensures) ∙ is,
      ap (λ (z : SlotWord). z.generation) (f.0 ∙ sym c.word_of-said.ensures),
    )
