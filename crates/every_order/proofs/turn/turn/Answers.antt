use Rattle.plain_world.proofs.Ready.{ready}
use Rattle.every_order.proofs.turn.turn.Goals as goal

pub next-requires : goal.next-requires
next-requires c = record { ready = ready c.args.seeker.now.rules.now c.args.plain.now c.stands.ensures c.requires.kept; follows = c.requires.follows }
