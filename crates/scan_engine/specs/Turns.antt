-- The turns of a scan: what each of them tells, and how many are left.
use Rattle.std.specs.Prelude.{◌≡◌, ℕ, ◌+◌, ◌<◌, true, false, not, List, length, filter, find, slice_get, Option, Some, option_map}
use Rattle.cf_types.specs.declared.machine.Machine.{Machine}
use Rattle.cf_types.specs.declared.tables.Tables.{Tables}
use Rattle.run_rules.specs.declared.world.Position.{Position}
use Rattle.run_rules.specs.declared.world.Turn.{Turn}
use Rattle.run_rules.specs.Search.{is_before, is_child}

-- a turn below a spot: it is of one of the spots that hang there, at that spot's place, and of a row where the place is indirect
pub record IsTurn (t : Tables) (m : Machine) (parent : Option ℕ) (turn : Turn) : Type 0 where
  pub spot : turn.at.spot < length m.spots
  pub attr : turn.at.attr < 64
  pub row : turn.indirect ≡ true → turn.at.row < length t.rows
  pub straight : turn.indirect ≡ false → turn.at.row ≡ 0
  pub child : is_child m parent turn.place turn.at.spot ≡ true
  pub place : option_map (λ spot. spot.place) (slice_get m.spots turn.at.spot) ≡ Some turn.place

-- the first of these turns that is not before a position
abbrev pub first_from : List Turn → Position → Option Turn
first_from turns from = find (λ t. not (is_before t.at from)) turns

-- the position right behind one
abbrev pub past : Position → Position
past at = record at { spot = at.spot + 1 }

-- how many turns are not before a position
abbrev pub turns_after : List Turn → Position → ℕ
turns_after turns from = length (filter (λ t. not (is_before t.at from)) turns)
