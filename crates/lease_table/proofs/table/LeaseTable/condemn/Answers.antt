use Rattle.std.proofs.Common.{sym, ap, ◌∙◌, arith}
use Rattle.std.specs.Prelude.{slice_get}
use Rattle.ref_ledger.specs.declared.state.SlotState.TheVariants.{Live}
use Rattle.lease_table.specs.Shown.{states_in}
use Rattle.lease_table.proofs.Keeps.{condemns}
use Rattle.lease_table.proofs.States.{known_state}
use Rattle.lease_table.proofs.table.LeaseTable.condemn.Goals as goal

pub fetch_or-requires : goal.fetch_or-requires
fetch_or-requires c =
    let t = c.self.inside in
    let s = c.keeper.inside.seat in
    let table = ap (λ z. z.table) c.keeper.view_is ∙ (c.requires.table ∙ sym c.self.view_is) in
    let known = known_state s.me.0 c.args.slot Live (ap (λ z. slice_get (states_in z.view) c.args.slot) c.keeper.view_is ∙ c.requires.state) in
    let words = ap (λ z. z.words) table in
    let wide = c.self.invariant in
    let many = c.keeper.invariant.1 in
    let inside = known.0 in (
      table,
      omega arith,
      condemns t.table.shared.key t.table.shared.table_id.slots s.id s.me.0 s.me.1 c.args.slot (omega arith) c.keeper.invariant.0 inside known.1,
    )
