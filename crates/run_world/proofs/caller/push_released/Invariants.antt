use Rattle.std.proofs.Common.{◌≡◌, ◌≤◌, ◌++◌, length}
use Rattle.defer_queue.specs.Queue.{entries_of, others_of}
use Rattle.run_world.specs.Callers.{released_frames}
use Rattle.run_world.proofs.caller.push_released.Given as goal

abbrev pub invariant-loop-child : goal.invariant-loop-child
invariant-loop-child l = record {
  room : length (entries_of l.deferred l.which) ≤ l.stack.room;
  others : others_of l.deferred l.which ≡ others_of l.initial.deferred l.which;
  frames : released_frames l.deferred l.which ++ l.stack.frames ≡ released_frames l.initial.deferred l.which ++ l.initial.stack.frames;
}

abbrev pub decreases-loop-child : goal.decreases-loop-child
decreases-loop-child l = length l.deferred
