use Rattle.std.proofs.Common.{sym, ap, ◌∙◌, arith}
use Rattle.lease_table.proofs.Keeps.{deals}
use Rattle.lease_table.proofs.table.LeaseTable.seat.Goals as goal

pub split_seat-requires : goal.split_seat-requires
split_seat-requires c =
    let t = c.self.inside in
    let s = c.keeper.inside.seat in
    let table = ap (λ z. z.table) c.keeper.view_is ∙ (c.requires.table ∙ sym c.self.view_is) in
    let next = c.requires.next.0 in
    let fits = c.requires.next.1 in
    let drawn = ap (λ z. z.view.standing.drawn) c.keeper.view_is in (
      table,
      (let wide = c.self.invariant in omega arith),
      deals t.table.shared.key s.id s.me.0 c.keeper.invariant.0 (omega arith) (let wide = c.self.invariant in let words = ap (λ z. z.words) table in let many = c.keeper.invariant.1 in omega arith),
    )
