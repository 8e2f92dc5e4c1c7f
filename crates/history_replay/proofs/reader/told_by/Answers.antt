use Rattle.plain_world.proofs.Ready.{ready}
use Rattle.history_replay.specs.Readers.{setup_in}
use Rattle.history_replay.proofs.reader.told_by.Goals as goal

pub next_by-requires : goal.next_by-requires
next_by-requires c = record { ready = ready (setup_in c.args.reader.now) c.args.plain.now c.stands.ensures c.requires.going.kept; follows = c.requires.follows }
