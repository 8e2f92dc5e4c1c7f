use Rattle.std.proofs.Common.{◌≡◌, take}
use Rattle.plain_world.specs.Plain.{released_frames}
use Rattle.plain_world.proofs.caller.released.Given as goal

abbrev pub invariant-loop-put_off : goal.invariant-loop-put_off
invariant-loop-put_off l = l.frames.items ≡ released_frames (take l.put_off-index l.deferred) l.which
