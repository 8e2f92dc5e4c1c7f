use Rattle.std.proofs.Common.{◌≡◌, refl, subst, sym}
use Rattle.run_rules.specs.Lines.{IsFormed}
use Rattle.run_rules.specs.Next.{next}
use Rattle.run_rules.specs.World.{World}
use Rattle.run_rules.specs.declared.deed.Choice.TheVariants.{Does}
use Rattle.run_rules.specs.declared.deed.Deed.TheVariants.{Done}
use Rattle.run_rules.proofs.Setups.{after_setup}
use Rattle.dev_board.proofs.post.end_transfer.Goals as goal

pub finish_transfer-requires : goal.finish_transfer-requires
finish_transfer-requires c = subst (λ (w : World). next w c.args.ticket.caller ≡ Does (Done c.args.ticket)) (sym c.deed_event.ensures.same) c.requires

pub returns-clause-ok : goal.returns-clause-ok
returns-clause-ok c = record {
  world = rw c.deed_event.ensures.same at c.finish_transfer.ensures;
  events = rw (c.append_event.ensures.events, c.in_ok-reserve.ensures.items, c.in_ok-event.ensures.event) refl;
  formed = subst IsFormed c.in_ok-event.ensures.event c.in_ok-event.ensures.formed;
  stops = refl;
  stopped = refl;
}

pub returns-clause-told : goal.returns-clause-told
returns-clause-told c =
    rw (
      c.append_event.ensures.told,
      c.in_ok-reserve.ensures.items,
      c.in_ok-event.ensures.event,
      c.setup.ensures,
      c.finish_transfer.ensures,
      c.deed_event.ensures.same,
      after_setup c.args.state.now.going c.args.ticket.caller (Done c.args.ticket),
    ) refl
