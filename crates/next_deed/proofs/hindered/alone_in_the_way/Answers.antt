use Rattle.std.proofs.Common.{sym, subst, ◌∙◌}
use Rattle.dev_tree.specs.Tree.{AreInOrder}
use Rattle.dev_tree.proofs.Kept.{order_of}
use Rattle.next_deed.proofs.AloneLaws.{alone_free, alone_kept, live_found}
use Rattle.next_deed.proofs.hindered.alone_in_the_way.Goals as goal

pub returns-then-is_kept : goal.returns-then-is_kept
returns-then-is_kept c =
    let by = c.args.leaving in
    alone_kept c.args.going.now by.caller by.target by.forced c.is_kept.result c.in-Some.device (subst AreInOrder c.tree.ensures (order_of c.tree.result.now c.stands.ensures)) c.requires.bare (sym c.device.ensures.found ∙ c.in-Some.is)
    c.is_kept.ensures c.if-is_kept.true

pub returns-else-is_kept : goal.returns-else-is_kept
returns-else-is_kept c =
    let by = c.args.leaving in
    alone_free c.args.going.now by.caller by.target by.forced c.is_kept.result c.in-Some.device (subst AreInOrder c.tree.ensures (order_of c.tree.result.now c.stands.ensures)) c.requires.bare (sym c.device.ensures.found ∙ c.in-Some.is)
    c.is_kept.ensures c.if-is_kept.false

pub unreachable-requires : goal.unreachable-requires
unreachable-requires c = live_found c.args.going.now.live c.args.leaving.target c.requires.live (sym c.device.ensures.found ∙ c.in-None.is)
