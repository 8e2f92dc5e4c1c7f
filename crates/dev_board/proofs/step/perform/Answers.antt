use Rattle.std.proofs.Common.{◌≡◌, ◌<◌, ◌∙◌, ap, refl, subst, sym}
use Rattle.run_rules.specs.Lines.{IsFormed}
use Rattle.run_rules.specs.Next.{next}
use Rattle.run_rules.specs.World.{World}
use Rattle.run_rules.specs.declared.deed.Choice.TheVariants.{Does}
use Rattle.run_rules.proofs.Setups.{after_setup}
use Rattle.deed_effect.specs.Agreement.{slots_of}
use Rattle.dev_board.proofs.step.perform.Goals as goal

pub deed_event-requires : goal.deed_event-requires
deed_event-requires g c = c.requires.chosen

pub lease_of-lease-requires : goal.lease_of-lease-requires
lease_of-lease-requires g c = subst (λ (w : World). next w c.args.caller ≡ Does c.args.deed.now) (sym c.deed_event.ensures.same) c.requires.chosen

pub run_deed-requires-clause-chosen : goal.run_deed-requires-clause-chosen
run_deed-requires-clause-chosen g c = subst (λ (w : World). next w c.args.caller ≡ Does c.args.deed.now) (sym c.deed_event.ensures.same) c.requires.chosen

pub run_deed-requires-clause-agree : goal.run_deed-requires-clause-agree
run_deed-requires-clause-agree g c = subst (λ (w : World). g.S.Slots.states c.args.slots.now ≡ slots_of w) (sym c.deed_event.ensures.same) c.requires.agree

pub returns-in-Ok-run_deed-clause-ok : goal.returns-in-Ok-run_deed-clause-ok
returns-in-Ok-run_deed-clause-ok g c = record {
  world = rw c.deed_event.ensures.same at c.in-Ok-run_deed.ensures.done;
  events = rw (c.append_event.ensures.events, c.make_room.ensures.items, c.in-Ok.ensures.event) refl;
  formed = subst IsFormed c.in-Ok.ensures.event c.in-Ok.ensures.formed;
  stops = refl;
  stopped = refl;
}

pub returns-in-Ok-run_deed-clause-told : goal.returns-in-Ok-run_deed-clause-told
returns-in-Ok-run_deed-clause-told g c =
    rw (
      c.append_event.ensures.told,
      c.make_room.ensures.items,
      c.in-Ok.ensures.event,
      sym c.lease_of-lease.ensures,
      c.setup.ensures,
      c.in-Ok-run_deed.ensures.done,
      c.deed_event.ensures.same,
      after_setup c.args.state.now.going c.args.caller c.args.deed.now,
    ) refl

pub returns-in-Ok-run_deed-clause-quiet : goal.returns-in-Ok-run_deed-clause-quiet
returns-in-Ok-run_deed-clause-quiet g c = c.in-Ok-run_deed.ensures.quiet

pub returns-in-Ok-run_deed-clause-agree : goal.returns-in-Ok-run_deed-clause-agree
returns-in-Ok-run_deed-clause-agree g c = c.run_deed.ensures.agree

pub returns-in-Err-run_deed-clause-err : goal.returns-in-Err-run_deed-clause-err
returns-in-Err-run_deed-clause-err g c = rw (c.in-Err-run_deed.ensures.same, c.deed_event.ensures.same, c.make_room.ensures.items) refl

pub returns-in-Err-run_deed-clause-halt : goal.returns-in-Err-run_deed-clause-halt
returns-in-Err-run_deed-clause-halt g c = rw c.deed_event.ensures.same at c.in-Err-run_deed.ensures.halt

pub returns-in-Err-run_deed-clause-agree : goal.returns-in-Err-run_deed-clause-agree
returns-in-Err-run_deed-clause-agree g c = c.run_deed.ensures.agree

pub returns-in-Err-clause-err : goal.returns-in-Err-clause-err
returns-in-Err-clause-err g c = rw (c.deed_event.ensures.same, c.make_room.ensures.items) refl

pub returns-in-Err-clause-halt : goal.returns-in-Err-clause-halt
returns-in-Err-clause-halt g c = (refl, refl)

pub returns-in-Err-clause-agree : goal.returns-in-Err-clause-agree
returns-in-Err-clause-agree g c = subst (λ (w : World). g.S.Slots.states c.args.slots.now ≡ slots_of w) (sym c.deed_event.ensures.same) c.requires.agree
