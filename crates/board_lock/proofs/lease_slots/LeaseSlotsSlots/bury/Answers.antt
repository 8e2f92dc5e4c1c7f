use Rattle.std.proofs.Common.{subst}
use Rattle.ref_ledger.specs.Slots.{Answers}
use Rattle.lease_table.specs.Shown.{states_in}
use Rattle.lease_table.proofs.States.{burial}
use Rattle.board_lock.proofs.lease_slots.LeaseSlotsSlots.bury.Goals as goal

pub returns-clause-states : goal.returns-clause-states
returns-clause-states g c =
    let done = burial c.args.slot c.self.inside.keeper.view c.bury.new.keeper.view c.bury.result c.bury.ensures.bury in
    subst (λ z. Answers c.args.slot (states_in z.view) c.bury.result (states_in c.bury.new.keeper.view)) c.self.view_is done.0
