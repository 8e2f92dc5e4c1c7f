-- The places that a scan goes through.
use Rattle.std.specs.Prelude.{ℕ, ◌==◌, if◌then◌else◌, List, length, map, Option}
use Rattle.cf_types.specs.declared.machine.Machine.{Machine}
use Rattle.cf_types.specs.declared.tables.Place.{Place}
use Rattle.cf_types.specs.declared.tables.Tables.{Tables}
use Rattle.run_rules.specs.declared.world.Position.{Position}
use Rattle.run_rules.specs.declared.world.Turn.{Turn}
use Rattle.run_rules.specs.Search.{bus_turns, child_spots, is_bus_indirect}
use Rattle.scan_engine.specs.declared.bus.Bus.{Bus}
use Rattle.scan_engine.specs.Turns.{first_from}

-- the turn of a bus at a row and a spot
abbrev pub turn_on : Bus → ℕ → ℕ → Turn
turn_on b r x = record { at = record { attr = b.attr; row = r; spot = x }; place = b.place; indirect = b.indirect }

-- the first turn of a row of a bus, from a spot on
abbrev pub row_turn : Machine → Option ℕ → Bus → ℕ → ℕ → Option Turn
row_turn m parent b row spot = first_from (map (turn_on b row) (child_spots m parent b.place)) (record { attr = b.attr; row = row; spot = spot })

-- where a scan that goes on from a position begins at a place of this number
abbrev pub begin_in : ℕ → Position → Position
begin_in attr from = if attr == from.attr then from else record { attr = attr; row = 0; spot = 0 }

-- the turns of one place
abbrev pub place_turns : Tables → Machine → Option ℕ → Option ℕ → ℕ × Place → List Turn
place_turns t m attach spot e = bus_turns m (length t.rows) (is_bus_indirect m attach e.1) spot e
