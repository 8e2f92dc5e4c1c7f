use Rattle.cf_io.specs.Buffer.{told_of}
use Rattle.cf_io.proofs.GrowsLemmas.{flushes_after}
use Rattle.cf_io.proofs.buffer.BufferedSink.flush.Goals as goal

pub returns-in-All : goal.returns-in-All
returns-in-All g c =
    record { flushed = flushes_after c.flush_below.result (told_of c.args.self.now) (told_of c.hand_on.new.self) (told_of c.flush_below.new.self) c.in-All.ensures.kept c.in-All.ensures.counted c.flush_below.ensures }
