use Rattle.std.proofs.Common.{◌≡◌, ◌∙◌, ap}
use Rattle.run_rules.specs.declared.deed.Choice.TheVariants.{Waits}
use Rattle.run_rules.specs.declared.world.Wait.TheVariants.{Refs}
use Rattle.plain_world.specs.Plain.{world_of}
use Rattle.plain_world.proofs.Ready.{ready}
use Rattle.every_order.proofs.Waiting.{waits_live}
use Rattle.every_order.proofs.text.put_caller.Goals as goal

pub next-requires : goal.next-requires
next-requires c = record { ready = ready c.args.seeker.now.rules.now c.args.plain.now c.stands.ensures c.requires.kept; follows = c.requires.follows }

pub put_waiting-requires-clause-live : goal.put_waiting-requires-clause-live
put_waiting-requires-clause-live c =
    waits_live (world_of c.args.seeker.now.rules.now c.args.plain.now) c.args.caller c.in-Waits-Refs.serial (c.in_ok-serial.ensures ∙ c.in-Waits-Refs.is ∙ ap Waits (let e : c.in-Waits-Refs.field-0 ≡ Refs c.in-Waits-Refs.serial = cc in e))
