use Rattle.std.proofs.Common.{ap, ◌∙◌}
use Rattle.std.specs.Prelude.{slice_set}
use Rattle.ref_ledger.specs.declared.state.SlotState.TheVariants.{Live}
use Rattle.lease_table.specs.Shown.{states_in}
use Rattle.lease_table.proofs.States.{knowing_state}
use Rattle.board_lock.proofs.lease_slots.LeaseSlotsSlots.publish.Goals as goal

pub returns-clause-states : goal.returns-clause-states
returns-clause-states g c =
    ap states_in c.publish.ensures.changed ∙ (knowing_state c.self.inside.keeper.view c.args.slot Live ∙ ap (λ z. slice_set (states_in z.view) c.args.slot Live) c.self.view_is)
