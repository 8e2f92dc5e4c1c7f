use Rattle.std.proofs.Common.{refl}
use Rattle.run_rules.specs.Run.{event_of}
use Rattle.plain_event.specs.Tellers.{setup_in}
use Rattle.plain_event.proofs.told.event_anew.Goals as goal

pub returns-clause-event : goal.returns-clause-event
unfolding event_of
returns-clause-event c = rw (c.in_ok-act.ensures.act, c.number_of.ensures (setup_in c.args.teller.now)) refl
