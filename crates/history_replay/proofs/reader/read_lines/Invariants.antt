use Rattle.std.proofs.Common.{length}
use Rattle.plain_search.specs.Open.{Follows}
use Rattle.history_replay.specs.Readers.{IsSame, setup_in, world_in}
use Rattle.history_replay.proofs.Readings.{HasRead}
use Rattle.history_replay.proofs.reader.read_lines.Given as goal

abbrev pub invariant-loop-line : goal.invariant-loop-line
invariant-loop-line l = record {
  read : HasRead (setup_in l.fn.reader) l.fn.reader.format (world_in l.fn.reader l.fn.plain) l.first l.text l.events l.plain l.number l.left;
  same : IsSame l.fn.reader l.reader;
  follows : Follows l.reader.seeker l.plain.live.devices;
}

abbrev pub decreases-loop-line : goal.decreases-loop-line
decreases-loop-line l = length l.left
