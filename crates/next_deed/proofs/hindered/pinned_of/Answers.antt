use Rattle.std.proofs.Common.{◌≡◌, ◌==◌, ◌<◌, ◌∙◌, List, length, take, ap, arith}
use Rattle.std.specs.List.{list_any}
use Rattle.std.proofs.lemmas.List.{take_all}
use Rattle.run_rules.specs.World.{World, frame_serial, is_pinned}
use Rattle.run_world.specs.declared.caller.CallerState.{CallerState}
use Rattle.next_deed.proofs.ChoiceLaws.{pinned_all, pins_more}
use Rattle.next_deed.proofs.hindered.pinned_of.Goals as goal

pub loop-caller-preserved : goal.loop-caller-preserved
loop-caller-preserved c = λ x.
    let lt : c.loop-caller.caller-index < length c.deref-caller-items.result.now = omega (arith, c.loop-caller-test.true) in
    pins_more c.deref-caller-items.result.now c.loop-caller.caller-index x c.caller-item.result c.loop-caller.serials.items c.add_serials.new.serials.items lt c.caller-item.is
    (c.loop-caller.invariant x) (c.in_ok-add_serials.ensures x)

pub returns : goal.returns
returns c = λ x.
    let callers : List CallerState = c.deref-caller-items.result.now in
    let all : take c.loop-caller.caller-index callers ≡ callers = take_all c.loop-caller.caller-index callers (omega (arith, c.loop-caller-test.false)) in
    pinned_all c.held.inside.site.setup c.held.inside.core x callers c.loop-caller.serials.items c.add_children.new.serials.items c.deref-caller-items.ensures.value
    (c.loop-caller.invariant x ∙ ap (list_any (λ c. list_any (λ f. frame_serial f == x) c.stack.frames)) all) c.in_ok-add_children.ensures
    ∙ ap (λ (w : World). is_pinned w x) (c.held.view_is ∙ c.going.view_is)
