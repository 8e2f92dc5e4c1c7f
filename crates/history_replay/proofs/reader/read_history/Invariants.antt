use Rattle.std.proofs.Common.{◌≡◌, length}
use Rattle.plain_world.specs.Plain.{world_of}
use Rattle.history_replay.proofs.Readings.{HasPassed}
use Rattle.history_replay.proofs.reader.read_history.Given as goal

abbrev pub invariant-loop-line : goal.invariant-loop-line
invariant-loop-line l = record {
  same : l.plain ≡ l.fn.plain;
  passed : HasPassed (world_of l.rules l.fn.plain) l.text l.number l.left;
}

abbrev pub decreases-loop-line : goal.decreases-loop-line
decreases-loop-line l = length l.left
