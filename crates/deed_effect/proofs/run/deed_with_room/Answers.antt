use Rattle.std.proofs.Common.{◌≡◌, ◌<◌, ◌∙◌, ap, refl, subst, sym}
use Rattle.std.specs.Prelude.{IfErr, OnErr, OnOk}
use Rattle.run_rules.specs.After.{after}
use Rattle.run_rules.specs.Next.{next}
use Rattle.run_rules.specs.World.{World}
use Rattle.run_rules.specs.declared.deed.Choice.TheVariants.{Does}
use Rattle.run_sound.specs.Kept.{Kept}
use Rattle.run_world.specs.View.{world_of}
use Rattle.run_world.proofs.TellLaws.{doer_there}
use Rattle.deed_effect.specs.Agreement.{slots_of}
use Rattle.deed_effect.specs.SlotDeeds.{HaltIs}
use Rattle.deed_effect.proofs.run.deed_with_room.Goals as goal

pub reserve-requires : goal.reserve-requires
reserve-requires g c = doer_there c.args.site.now.setup c.args.core.now c.args.caller _ c.requires.chosen

pub deed_in_room-requires : goal.deed_in_room-requires
deed_in_room-requires g c =
    let s = c.args.site.now.setup in
    let k = c.args.caller in
    let d = c.args.deed.now in
    let back = sym (c.reserve.ensures.world s) in
    let chosen = subst (λ (w : World). next w k ≡ Does d) back c.requires.chosen in
    record {
      may = c.requires.may;
      books = c.reserve.ensures.books s c.requires.books;
      kept = subst Kept back c.requires.kept;
      caller = doer_there s c.reserve.new.core k d chosen;
      chosen = chosen;
      agree = subst (λ (w : World). g.S.Slots.states c.args.slots.now ≡ slots_of w) back c.requires.agree;
      next = subst (λ (w : World). w.next < 18446744073709551615) back c.requires.next;
      room = c.in-Ok.ensures.room;
    }

pub returns-in-Ok-clause-done : goal.returns-in-Ok-clause-done
returns-in-Ok-clause-done g c =
    let s = c.args.site.now.setup in
    subst (λ (w : World). OnOk c.deed_in_room.result (world_of s c.deed_in_room.new.core ≡ after w c.args.caller c.args.deed.now)) (c.reserve.ensures.world s) c.deed_in_room.ensures.done

pub returns-in-Ok-clause-quiet : goal.returns-in-Ok-clause-quiet
returns-in-Ok-clause-quiet g c = c.deed_in_room.ensures.quiet

pub returns-in-Ok-clause-same : goal.returns-in-Ok-clause-same
returns-in-Ok-clause-same g c =
    let s = c.args.site.now.setup in
    subst (λ (w : World). OnErr c.deed_in_room.result (world_of s c.deed_in_room.new.core ≡ w)) (c.reserve.ensures.world s) c.deed_in_room.ensures.same

pub returns-in-Ok-clause-halt : goal.returns-in-Ok-clause-halt
returns-in-Ok-clause-halt g c =
    subst
    (λ (w : World). IfErr c.deed_in_room.result (λ why. HaltIs w.live c.args.deed.now (g.S.Slots.denials c.args.slots.now) (g.S.Slots.last_denial c.args.slots.now) why (g.S.Slots.denials c.deed_in_room.new.slots) (g.S.Slots.last_denial c.deed_in_room.new.slots)))
    (c.reserve.ensures.world c.args.site.now.setup) c.deed_in_room.ensures.halt

pub returns-in-Ok-clause-agree : goal.returns-in-Ok-clause-agree
returns-in-Ok-clause-agree g c = c.deed_in_room.ensures.agree

pub returns-in-Ok-clause-books : goal.returns-in-Ok-clause-books
returns-in-Ok-clause-books g c = c.deed_in_room.ensures.books

pub returns-in-Err-clause-same : goal.returns-in-Err-clause-same
returns-in-Err-clause-same g c = c.reserve.ensures.world c.args.site.now.setup

pub returns-in-Err-clause-halt : goal.returns-in-Err-clause-halt
returns-in-Err-clause-halt g c = (refl, refl)

pub returns-in-Err-clause-agree : goal.returns-in-Err-clause-agree
returns-in-Err-clause-agree g c = c.requires.agree ∙ ap slots_of (sym (c.reserve.ensures.world c.args.site.now.setup))

pub returns-in-Err-clause-books : goal.returns-in-Err-clause-books
returns-in-Err-clause-books g c = c.reserve.ensures.books c.args.site.now.setup c.requires.books
