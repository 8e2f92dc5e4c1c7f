use Rattle.std.proofs.Common.{◌≡◌, ◌≢◌, ◌<◌, ◌-◌, ℕ, sym, ap, ◌∙◌, arith}
use Rattle.std.specs.Int.{bit_at}
use Rattle.lease_table.proofs.Keeps.{gives}
use Rattle.lease_table.proofs.table.LeaseTable.clear.Goals as goal

pub fetch_and-requires : goal.fetch_and-requires
fetch_and-requires c =
    let t = c.self.inside in
    let s = c.seat.inside.seat in
    let wide = c.self.invariant in
    let words = ap (λ z. z.words) c.self.view_is in
    let slot = c.requires.slot in
    let mine = c.seat.invariant.0 in
    let some = c.seat.invariant.1 in
    let off = ap (λ z. bit_at c.other_bits-mask.result (z - 1)) mine ∙ c.other_bits-mask.ensures.own in
    let on : (b : ℕ) → b < 64 → b ≢ s.me.0.standing.number - 1 → bit_at c.other_bits-mask.result b ≡ 1 = λ b l other. c.other_bits-mask.ensures.others b l (λ e. other (e ∙ ap (λ z. z - 1) (sym mine))) in (
      ap (λ z. z.table) c.seat.view_is ∙ (c.requires.table ∙ sym c.self.view_is),
      omega arith,
      gives t.table.shared.key t.table.shared.table_id.slots s.id s.me.0 s.me.1 c.args.slot c.other_bits-mask.result (omega arith) (omega arith) off on,
    )
