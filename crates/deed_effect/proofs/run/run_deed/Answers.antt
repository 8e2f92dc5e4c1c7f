use Rattle.std.proofs.Common.{◌≡◌, ◌<◌, ◌∙◌, subst, sym}
use Rattle.std.specs.Prelude.{IfErr, OnErr, OnOk}
use Rattle.run_rules.specs.After.{after}
use Rattle.run_rules.specs.Next.{next}
use Rattle.run_rules.specs.World.{World}
use Rattle.run_rules.specs.declared.deed.Choice.TheVariants.{Does}
use Rattle.run_sound.specs.Kept.{Kept, MayRun}
use Rattle.run_world.specs.View.{world_of}
use Rattle.deed_effect.specs.Agreement.{slots_of}
use Rattle.deed_effect.specs.SlotDeeds.{HaltIs}
use Rattle.deed_effect.proofs.GoesLaws.{goes_still}
use Rattle.deed_effect.proofs.run.run_deed.Goals as goal

pub deed_with_room-requires : goal.deed_with_room-requires
deed_with_room-requires g c =
    let back = sym (c.held.view_is ∙ c.going.view_is) in
    record {
      may = subst (λ (w : World). MayRun w.setup) (sym c.held.view_is) c.going.invariant.may;
      books = c.held.invariant;
      kept = subst Kept (sym c.held.view_is) c.going.invariant.kept;
      chosen = subst (λ (w : World). next w c.args.caller ≡ Does c.args.deed.now) back c.requires.chosen;
      agree = subst (λ (w : World). g.S.Slots.states c.args.slots.now ≡ slots_of w) back c.requires.agree;
      next = subst (λ (w : World). w.next < 18446744073709551615) back c.requires.next;
    }

pub invariant_of-held : goal.invariant_of-held
invariant_of-held g c = c.deed_with_room.ensures.books

pub invariant_of-going : goal.invariant_of-going
invariant_of-going g c =
    let v : World = world_of c.held.inside.site.setup c.deed_with_room.new.core in
    let r = c.deed_with_room.result in
    let is = c.held.view_is in
    goes_still c.going.inside.held v c.args.caller c.args.deed.now r c.going.invariant
    (subst (λ (w : World). next w c.args.caller ≡ Does c.args.deed.now) (sym c.going.view_is) c.requires.chosen)
    (subst (λ (w : World). OnOk r (v ≡ after w c.args.caller c.args.deed.now)) is c.deed_with_room.ensures.done)
    (subst (λ (w : World). OnErr r (v ≡ w)) is c.deed_with_room.ensures.same)

pub returns-clause-done : goal.returns-clause-done
returns-clause-done g c =
    let v : World = world_of c.held.inside.site.setup c.deed_with_room.new.core in
    subst (λ (w : World). OnOk c.deed_with_room.result (v ≡ after w c.args.caller c.args.deed.now)) (c.held.view_is ∙ c.going.view_is) c.deed_with_room.ensures.done

pub returns-clause-quiet : goal.returns-clause-quiet
returns-clause-quiet g c = c.deed_with_room.ensures.quiet

pub returns-clause-same : goal.returns-clause-same
returns-clause-same g c =
    let v : World = world_of c.held.inside.site.setup c.deed_with_room.new.core in
    subst (λ (w : World). OnErr c.deed_with_room.result (v ≡ w)) (c.held.view_is ∙ c.going.view_is) c.deed_with_room.ensures.same

pub returns-clause-halt : goal.returns-clause-halt
returns-clause-halt g c =
    subst
    (λ (w : World). IfErr c.deed_with_room.result (λ why. HaltIs w.live c.args.deed.now (g.S.Slots.denials c.args.slots.now) (g.S.Slots.last_denial c.args.slots.now) why (g.S.Slots.denials c.deed_with_room.new.slots) (g.S.Slots.last_denial c.deed_with_room.new.slots)))
    (c.held.view_is ∙ c.going.view_is) c.deed_with_room.ensures.halt

pub returns-clause-agree : goal.returns-clause-agree
returns-clause-agree g c = c.deed_with_room.ensures.agree
