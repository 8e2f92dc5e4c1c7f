use Rattle.std.proofs.Common.{◌∙◌, ap, refl, sym, subst, List}
use Rattle.run_rules.specs.World.{World}
use Rattle.run_rules.specs.declared.world.Dev.{Dev}
use Rattle.deed_effect.specs.Agreement.{slots_of}
use Rattle.run_world.specs.Arrivals.{got_of}
use Rattle.deed_effect.specs.Publishing.{published}
use Rattle.deed_effect.specs.SlotDeeds.{SlotsLag, condemned_by}
use Rattle.run_world.specs.View.{world_of}
use Rattle.deed_effect.proofs.DeedSlots.{slots_lag}
use Rattle.deed_effect.proofs.SlotSteps.{slot_ready}
use Rattle.run_world.proofs.StepLaws.{deed_arrives}
use Rattle.deed_effect.proofs.slots.do_with.Goals as goal

pub publish-requires : goal.publish-requires
publish-requires g c =
    let w : World = world_of c.args.site.now.setup c.args.core.now in
    rw c.got_of.ensures (slot_ready w _ (g.S.Slots.states c.args.slots.now) c.requires.agree (deed_arrives w c.args.caller c.args.deed.now c.requires.may c.requires.kept c.requires.chosen))

pub condemn_too-requires : goal.condemn_too-requires
condemn_too-requires g c =
    let w : World = world_of c.args.site.now.setup c.args.core.now in
    let d = c.args.deed.now in
    rw (c.condemned_by.ensures, c.publish.ensures.states, c.got_of.ensures, c.requires.agree)
    (subst (λ (ds : List Dev). SlotsLag w.setup ds (condemned_by d) (published (got_of d) (slots_of w))) (sym (ap (λ (v : World). v.live) c.in-Ok.ensures.ok))
    (slots_lag w c.args.caller d c.requires.chosen (deed_arrives w c.args.caller d c.requires.may c.requires.kept c.requires.chosen) c.requires.other))

pub commit-requires : goal.commit-requires
commit-requires g c = record {
  may = c.requires.may;
  books = c.requires.books;
  kept = c.requires.kept;
  caller = c.requires.caller;
  chosen = c.requires.chosen;
  next = c.requires.next;
  room = c.requires.room;
}

pub returns-in-Ok-clause-done : goal.returns-in-Ok-clause-done
returns-in-Ok-clause-done g c = c.in-Ok.ensures.ok

pub returns-in-Ok-clause-agree : goal.returns-in-Ok-clause-agree
returns-in-Ok-clause-agree g c = c.condemn_too.ensures.agree

pub returns-in-Ok-clause-quiet : goal.returns-in-Ok-clause-quiet
returns-in-Ok-clause-quiet g c = (c.condemn_too.ensures.denials ∙ c.publish.ensures.denials, c.condemn_too.ensures.last ∙ c.publish.ensures.last)

pub returns-in-Ok-clause-books : goal.returns-in-Ok-clause-books
returns-in-Ok-clause-books g c = c.commit.ensures.books

pub returns-in-Err-clause-same : goal.returns-in-Err-clause-same
returns-in-Err-clause-same g c = c.in-Err.ensures.err

pub returns-in-Err-clause-agree : goal.returns-in-Err-clause-agree
returns-in-Err-clause-agree g c = c.requires.agree ∙ ap slots_of (sym c.in-Err.ensures.err)

pub returns-in-Err-clause-halt : goal.returns-in-Err-clause-halt
returns-in-Err-clause-halt g c = (refl, refl)

pub returns-in-Err-clause-books : goal.returns-in-Err-clause-books
returns-in-Err-clause-books g c = c.commit.ensures.books
