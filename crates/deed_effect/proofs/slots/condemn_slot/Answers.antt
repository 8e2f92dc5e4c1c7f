use Rattle.std.proofs.Common.{sym, ◌∙◌}
use Rattle.deed_effect.specs.Agreement.{slots_of}
use Rattle.deed_effect.proofs.AloneSlots.{no_slot, slot_live, slot_set}
use Rattle.deed_effect.proofs.GoneLaws.{found_there}
use Rattle.deed_effect.proofs.slots.condemn_slot.Goals as goal

pub condemn-requires : goal.condemn-requires
condemn-requires g c =
    slot_live c.args.core.now.tree c.args.target c.in-Some.device c.stands.ensures c.requires.alone (sym c.get.ensures ∙ c.in-Some.is) c.args.site.now.setup (g.S.Slots.states c.args.slots.now) c.requires.late
    (rw c.len.ensures at c.if-device-len.true)

pub unreachable-requires : goal.unreachable-requires
unreachable-requires g c = found_there c.args.core.now.tree.live c.args.target c.requires.alone.0 (sym c.get.ensures ∙ c.in-None.is)

pub returns-then-device-len-clause-agree : goal.returns-then-device-len-clause-agree
unfolding slots_of
returns-then-device-len-clause-agree g c =
    c.condemn.ensures.states
    ∙ slot_set c.args.core.now.tree c.args.target c.in-Some.device c.stands.ensures c.requires.alone (sym c.get.ensures ∙ c.in-Some.is) c.args.site.now.setup (g.S.Slots.states c.args.slots.now) c.requires.late
    (rw c.len.ensures at c.if-device-len.true)

pub returns-else-device-len-clause-agree : goal.returns-else-device-len-clause-agree
unfolding slots_of
returns-else-device-len-clause-agree g c =
    no_slot c.args.core.now.tree c.args.target c.in-Some.device c.stands.ensures c.requires.alone (sym c.get.ensures ∙ c.in-Some.is) c.args.site.now.setup (g.S.Slots.states c.args.slots.now) c.requires.late
    (rw c.len.ensures at c.if-device-len.false)
