-- What becomes of a caller's frames.
use Rattle.std.specs.Prelude.{List, map}
use Rattle.run_rules.specs.declared.world.Deferred.{Deferred}
use Rattle.run_rules.specs.declared.world.Frame.{Frame}
use Rattle.run_rules.specs.declared.world.Key.{Key}
use Rattle.run_rules.specs.World.{Caller, scan_of}
use Rattle.run_rules.specs.After.{settled}
use Rattle.defer_queue.specs.Queue.{entries_of}

-- the caller with these frames; a rescan is over where there are none
abbrev pub stacked : Caller → List Frame → Caller
stacked c stack = record { over = c.over; doing = c.doing; stack = stack }

abbrev pub framed : Caller → List Frame → Caller
framed c stack = settled (stacked c stack)

-- the scans that were put off to a key, the first of them first
abbrev pub released_frames : List Deferred → Key → List Frame
released_frames entries which = map (λ e. scan_of e.child) (entries_of entries which)
