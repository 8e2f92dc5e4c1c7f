use Rattle.std.proofs.Common.{◌≡◌, subst}
use Rattle.std.specs.Prelude.{IfOk}
use Rattle.run_rules.specs.declared.event.Act.{Act}
use Rattle.run_rules.specs.declared.event.Event.{Event}
use Rattle.run_rules.specs.Run.{event_of}
use Rattle.plain_event.specs.Tellers.{setup_in, world_in}
use Rattle.plain_event.specs.Told.{event_with}
use Rattle.plain_event.proofs.told.event_of.Goals as goal

pub returns-in-Some-clause-event : goal.returns-in-Some-clause-event
unfolding event_of
returns-in-Some-clause-event c =
    let w = world_in c.args.teller.now c.args.plain.now in
    subst (λ (a : Act). IfOk c.event_again.result (λ (e : Event). e ≡ event_with w c.args.caller a)) (c.in-Some.ensures c.args.caller) (c.event_again.ensures (setup_in c.args.teller.now))
