use Rattle.cf_io.specs.Buffer.{told_of}
use Rattle.cf_io.proofs.GrowsLemmas.{puts_after}
use Rattle.cf_io.specs.declared.sink.Put.TheVariants.{All}
use Rattle.cf_io.proofs.buffer.BufferedSink.put.Goals as goal

pub returns-then-piece-gt-ROOM : goal.returns-then-piece-gt-ROOM
returns-then-piece-gt-ROOM g c =
    record { taken = puts_after c.args.piece.now c.pass_on.result (told_of c.args.self.now) (told_of c.hand_on.new.self) (told_of c.pass_on.new.self) c.in-All.ensures.kept c.in-All.ensures.counted c.pass_on.ensures }

pub returns : goal.returns
returns g c =
    record { taken = puts_after c.args.piece.now All (told_of c.args.self.now) (told_of c.hand_on.new.self) (told_of c.hold-2.new.self) c.in-All.ensures.kept c.in-All.ensures.counted c.hold-2.ensures }
