use Rattle.std.proofs.Common.{◌∙◌, ap}
use Rattle.run_rules.specs.World as world
use Rattle.run_rules.specs.World.{World}
use Rattle.next_deed.proofs.ChoiceLaws.{pinned_framed, pinned_put_off}
use Rattle.next_deed.proofs.hindered.is_pinned.Goals as goal

pub returns-then-is_framed : goal.returns-then-is_framed
returns-then-is_framed c =
    let held = c.held.inside in
    pinned_framed held.site.setup held.core c.args.serial c.deref.result.now c.is_framed.result c.deref.ensures.value c.is_framed.ensures c.if-is_framed.true
    ∙ ap (λ (w : World). world.is_pinned w c.args.serial) (c.held.view_is ∙ c.going.view_is)

pub returns-else-is_framed : goal.returns-else-is_framed
returns-else-is_framed c =
    let held = c.held.inside in
    pinned_put_off held.site.setup held.core c.args.serial c.deref.result.now c.is_framed.result c.pinned.result c.deref.ensures.value c.is_framed.ensures c.if-is_framed.false c.pinned.ensures
    ∙ ap (λ (w : World). world.is_pinned w c.args.serial) (c.held.view_is ∙ c.going.view_is)
