use Rattle.std.proofs.Common.{◌≡◌, true, sym, ap, ◌∙◌, arith}
use Rattle.lease_table.specs.Leases.{claim_at}
use Rattle.lease_table.specs.Words.{is_holder, said}
use Rattle.lease_table.specs.declared.view.SlotWord.{SlotWord}
use Rattle.lease_table.proofs.Keeps.{looks}
use Rattle.lease_table.proofs.table.LeaseTable.look.Goals as goal

pub load-word-requires : goal.load-word-requires
load-word-requires c =
    let t = c.self.inside in
    let s = c.seat.inside.seat in
    let wide = c.self.invariant in
    let words = ap (λ z. z.words) c.self.view_is in
    let slot = c.requires.slot in
    let at = ap (λ z. z.slot) c.lease.view_is in
    let mine = c.seat.invariant in (
      ap (λ z. z.table) c.seat.view_is ∙ (c.requires.table ∙ sym c.self.view_is),
      omega arith,
      looks t.table.shared.key t.table.shared.table_id.slots s.id s.me.0 s.me.1 c.lease.inside.slot (omega arith) (let a = mine.0 in let b = mine.1 in omega arith),
    )

pub returns-clause-own : goal.returns-clause-own
returns-clause-own c =
    let x = c.lease.inside.slot in
    let word = c.load-word.result in
    let s = c.seat.inside in
    let held = ap (λ z. claim_at z.view.standing x) c.seat.view_is ∙ (ap (λ z. claim_at c.args.seat.now.view.standing z.slot) c.lease.view_is ∙ c.requires.held) in
    let own : is_holder (said word) s.seat.me.0.standing.number ≡ true = (c.load-word.ensures.2.held c.args.lease.now.generation held).2 in
    let number : s.seat.me.0.standing.number ≡ c.args.seat.now.caller = c.seat.invariant.0 ∙ ap (λ z. z.caller) c.seat.view_is in
    ap (λ (z : SlotWord). is_holder z c.args.seat.now.caller) c.word_of.ensures ∙ (ap (λ z. is_holder (said word) z) (sym number) ∙ own)
