use Rattle.std.proofs.Common.{◌≡◌, length}
use Rattle.deed_effect.specs.SlotDeeds.{LatelyCondemned}
use Rattle.deed_effect.proofs.SlotLaws.{Amid}
use Rattle.deed_effect.proofs.slots.condemn_slots.Given as goal

abbrev pub invariant-loop-spot : goal.invariant-loop-spot
invariant-loop-spot g l = record {
  states : (h : LatelyCondemned l.site.setup l.core.tree.live l.target (g.S.Slots.states l.initial.slots)) → Amid (g.S.Slots.states l.slots) h.were l.core.tree.live (length l.site.setup.machine.spots) l.spot;
  denials : g.S.Slots.denials l.slots ≡ g.S.Slots.denials l.initial.slots;
  last : g.S.Slots.last_denial l.slots ≡ g.S.Slots.last_denial l.initial.slots;
}
