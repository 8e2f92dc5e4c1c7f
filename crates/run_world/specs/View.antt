-- The world of a board, and what every board keeps.
use Rattle.std.specs.Prelude.{◌≡◌, true, List, [], map, length}
use Rattle.run_rules.specs.declared.world.Setup.{Setup}
use Rattle.run_rules.specs.World.{World, Caller, driver_of, opening}
use Rattle.run_world.specs.declared.caller.CallerState.{CallerState}
use Rattle.run_world.specs.declared.parts.Core.{Core}
use Rattle.match_search.specs.Best.{live_rows}
use Rattle.run_world.specs.Recent.{AreRecent}
use Rattle.run_world.specs.UnitsOf.{AreUnitsOf}
use Rattle.unit_alloc.specs.Taken.{NoneTaken}

abbrev pub caller_of : CallerState → Caller
caller_of c = record { over = c.over; doing = c.doing; stack = c.stack.frames }

abbrev pub callers_of : List CallerState → List Caller
callers_of cs = map caller_of cs

-- the world that the parts are
abbrev pub world_of : Setup → Core → World
world_of s c = record {
  setup = s;
  live = c.tree.live;
  next = c.tree.next;
  refs = c.refs.refs;
  sole = c.refs.sole;
  absent = c.absent;
  hidden = c.hidden;
  interrupts_on = c.interrupts_on;
  power_owner = c.power_owner;
  deferred = c.deferred;
  finalisers = c.finalisers.items;
  next_finaliser = c.next_finaliser;
  pass_repeats = c.pass_repeats;
  callers = callers_of c.callers.items;
}

-- the rows are marked as they are live, exactly the units of live devices are taken, the tree knows their drivers, and what is
-- kept of the acts that were told tells so
pub record Books (s : Setup) (c : Core) : Type 0 where
  pub marks : c.rows ≡ live_rows s c.tree.live
  pub units : AreUnitsOf s c.tree.live c.units
  pub drivers : c.tree.drivers ≡ map (λ d. driver_of s d.row) c.tree.live
  pub recent : AreRecent s c.recent

-- the parts before any event
pub record IsFirst (s : Setup) (c : Core) : Type 0 where
  pub world : world_of s c ≡ opening s
  pub rows : c.rows ≡ map (λ r. true) s.tables.rows
  pub units : NoneTaken (length s.tables.devices) c.units
  pub drivers : c.tree.drivers ≡ []
  pub recent : AreRecent s c.recent
