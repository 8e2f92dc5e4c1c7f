-- The world that a plain world is.
use Rattle.std.specs.Prelude.{ℕ, ◌<◌, ◌≤◌, List, filter, length, map}
use Rattle.std.specs.List.{slice_index_or}
use Rattle.run_rules.specs.declared.world.Deferred.{Deferred}
use Rattle.run_rules.specs.declared.world.Frame.{Frame}
use Rattle.run_rules.specs.declared.world.Frame.TheVariants.{Scan, Finaliser}
use Rattle.run_rules.specs.declared.world.Key.{Key}
use Rattle.run_rules.specs.declared.world.Position.{Position}
use Rattle.run_rules.specs.declared.world.Setup.{Setup}
use Rattle.run_rules.specs.World.{World, Caller, nobody, scan_of}
use Rattle.run_rules.specs.After.{same_key, settled}
use Rattle.plain_world.specs.declared.world.Plain.{Plain}

abbrev pub world_of : Setup → Plain → World
world_of s p = record {
  setup = s;
  live = p.live.devices;
  next = p.live.next;
  refs = p.refs;
  sole = p.sole.items;
  absent = p.absent;
  hidden = p.hidden;
  interrupts_on = p.interrupts_on;
  power_owner = p.power_owner;
  deferred = p.deferred;
  finalisers = p.finalisers.items;
  next_finaliser = p.next_finaliser;
  pass_repeats = p.pass_repeats;
  callers = p.callers.items;
}

-- the caller at a place
abbrev pub state_at : List Caller → ℕ → Caller
state_at callers k = slice_index_or callers k nobody

-- the caller with these frames; a rescan is over where there are none
abbrev pub restacked : Caller → List Frame → Caller
restacked c stack = settled (record { over = c.over; doing = c.doing; stack = stack })

-- the scans that were put off to a key, the first of them first
abbrev pub released_frames : List Deferred → Key → List Frame
released_frames deferred which = map (λ e. scan_of e.child) (filter (λ e. same_key e.key which) deferred)

-- a frame, of which a scan moves to a position
abbrev pub moved : Position → Frame → Frame
moved to (Scan s only wanted from) = Scan s only wanted to
moved to (Finaliser s) = Finaliser s

-- there are few devices, and few commands of each caller are over
pub record IsReady (p : Plain) : Type 0 where
  pub few : length p.live.devices ≤ 1024
  pub low : (k : ℕ) → (state_at p.callers.items k).over ≤ 500

-- there is such a caller, and no more than so many of its commands are over
pub record HasCaller (p : Plain) (k n : ℕ) : Type 0 where
  pub there : k < length p.callers.items
  pub low : (state_at p.callers.items k).over ≤ n
