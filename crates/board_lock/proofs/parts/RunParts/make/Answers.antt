use Rattle.std.proofs.Common.{ap, ◌∙◌, sym, map}
use Rattle.std.specs.Prelude.{replicate}
use Rattle.lease_table.specs.Leases.{free_slot}
use Rattle.lease_table.specs.declared.view.SlotRecord.{SlotRecord}
use Rattle.lease_table.specs.Shown.{states_in}
use Rattle.board_lock.proofs.Published.{none_published}
use Rattle.deed_effect.specs.Agreement.{slots_of}
use Rattle.board_lock.proofs.Fits.{slots_long}
use Rattle.board_lock.proofs.Opened.{calm_of}
use Rattle.board_lock.proofs.Spared.{spared_slots}
use Rattle.board_lock.proofs.parts.RunParts.make.Goals as goal

pub publish-requires-clause-start : goal.publish-requires-clause-start
publish-requires-clause-start c =
    ap (λ z. states_in z.view) c.in_ok-table.ensures.keeper ∙ (ap (λ n. map (λ (k : SlotRecord). k.state) (replicate n free_slot)) (c.spots.ensures ∙ sym (slots_long c.args.board.now.world)) ∙ none_published (slots_of c.args.board.now.world))

pub publish-requires-clause-none : goal.publish-requires-clause-none
publish-requires-clause-none c = spared_slots c.args.board.now.world (calm_of c.args.board.now c.stands.ensures.may c.requires.booted).spared
