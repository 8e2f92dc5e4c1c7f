use Rattle.std.proofs.Common.{ap, ◌∙◌}
use Rattle.std.specs.Prelude.{slice_set}
use Rattle.ref_ledger.specs.declared.state.SlotState.TheVariants.{Condemned}
use Rattle.lease_table.specs.Shown.{states_in}
use Rattle.lease_table.proofs.States.{knowing_state}
use Rattle.board_lock.proofs.lease_slots.LeaseSlotsSlots.condemn.Goals as goal

pub returns-clause-states : goal.returns-clause-states
returns-clause-states g c =
    ap states_in c.condemn.ensures.changed ∙ (knowing_state c.self.inside.keeper.view c.args.slot Condemned ∙ ap (λ z. slice_set (states_in z.view) c.args.slot Condemned) c.self.view_is)
