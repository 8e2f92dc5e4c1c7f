-- Why a row does not take a spot: each reason, and the first of them that applies.
use Rattle.std.specs.Prelude.{ℕ, Bool, true, false, not, ◌&&◌, ◌==◌, if◌then◌else◌, List, [], ◌∷◌, length, reverse, map, filter, find, slice_get, Option, Some, None, option_map, option_and_then, ℤ}
use Rattle.std.specs.List.{count_by, list_any}
use Rattle.std.specs.Option.{option_map_or, option_or}
use Rattle.cf_types.specs.declared.machine.Machine.{Machine}
use Rattle.cf_types.specs.declared.machine.MatchLine.{MatchLine}
use Rattle.cf_types.specs.declared.tables.Locator.{Locator}
use Rattle.cf_types.specs.declared.tables.Place.{Place}
use Rattle.cf_types.specs.declared.tables.Place.TheVariants.{Root}
use Rattle.cf_types.specs.declared.tables.Row.{Row}
use Rattle.cf_types.specs.declared.tables.Tables.{Tables}
use Rattle.cf_types.specs.Locators.{fits_locator, locators_at}
use Rattle.cf_types.specs.Numbers.{below}
use Rattle.run_rules.specs.declared.world.Dev.{Dev}
use Rattle.run_rules.specs.declared.world.ParentRef.{ParentRef}
use Rattle.run_rules.specs.declared.world.Setup.{Setup}
use Rattle.run_rules.specs.Search.{fits, found_at, match_value, parent_ref, same_spot, winner}
use Rattle.run_rules.specs.World.{driver_of, row_at, same_place}
use Rattle.match_reasons.specs.declared.reason.Reason.{Reason}
use Rattle.match_reasons.specs.declared.reason.Reason.TheVariants.{Parent, Locator as Missed, NoMatch, Taken, Beaten}
use Rattle.match_reasons.specs.declared.reason.RowReason.{RowReason}
use Rattle.match_reasons.specs.declared.told.Told.{Told}

-- ---- each reason, if it applies

-- the row does not fit the parent at the place
abbrev pub other_parent : Tables → ParentRef → Place → Row → Option Reason
other_parent t p place row = if fits t p place row then None else Some Parent

-- whether the value for the locator at a place fits the one found
abbrev pub fits_at : List Locator → List ℤ → List ℤ → ℕ → Bool
fits_at locs values found i =
    option_map_or (λ l. option_map_or (λ v. option_map_or (λ f. fits_locator l.default v f) (slice_get found i) false) (slice_get values i) false) (slice_get locs i) true

-- the first locator whose value does not fit
abbrev pub missed_locator : List Locator → List ℤ → List ℤ → Option Reason
missed_locator locs values found = option_map Missed (find (λ i. not (fits_at locs values found i)) (below (length locs)))

-- the match value is 0
abbrev pub no_match : Machine → ℕ → Row → Option Reason
no_match m x row = if match_value m row.attach x == 0 then Some NoMatch else None

-- the row has one unit alone, which a live device has
abbrev pub unit_taken : Setup → List Dev → Row → Option Reason
unit_taken s live row =
    if row.star then None else option_map (λ d. Taken d.serial) (find (λ d. driver_of s d.row == row.device && d.unit == row.unit) live)

-- another row is the winner
abbrev pub beaten : Option ℕ → ℕ → Option Reason
beaten best r = option_and_then (λ q. if q == r then None else Some (Beaten q)) best

-- ---- the reason of a row

-- the first that is there
abbrev pub first_of : {A : Type 0} → List (Option A) → Option A
first_of [] = None
first_of (None ∷ rest) = first_of rest
first_of (Some x ∷ rest) = Some x

-- what keeps a row from being a candidate
abbrev pub kept_off : Setup → List Dev → ParentRef → Place → ℕ → Row → Option Reason
kept_off s live p place x row =
    first_of (other_parent s.tables p place row
    ∷ missed_locator (locators_at s.tables.attrs place) row.locs (found_at s.machine x)
    ∷ no_match s.machine x row
    ∷ unit_taken s live row ∷ [])

-- or that it is beaten
abbrev pub reason_of : Setup → List Dev → ParentRef → Place → ℕ → ℕ → Row → Option Reason
reason_of s live p place x r row = option_or (kept_off s live p place x row) (beaten (winner s live p place x) r)

-- why a row does not take a spot at a place below a parent, by its number
unfoldable pub reason : Setup → List Dev → ParentRef → Place → ℕ → ℕ → Option Reason
reason s live p place x r = option_and_then (reason_of s live p place x r) (row_at s r)

-- ---- all rows

-- whether a device has an attachment at a place
abbrev pub has_attachment : Tables → Place → ℕ → Bool
has_attachment t place d = list_any (λ a. a.device == d && list_any (λ q. same_place q place) a.places) t.attaches

-- whether the device of a row does
abbrev pub could_stand : Tables → Place → ℕ → Bool
could_stand t place r = option_map_or (λ row. has_attachment t place row.device) (slice_get t.rows r) false

abbrev pub row_reason : Setup → List Dev → ParentRef → Place → ℕ → ℕ → RowReason
row_reason s live p place x r = record { row = r; reason = reason s live p place x r }

-- of each row of such a device its reason, in the order of the rows
abbrev pub reasons : Setup → List Dev → ParentRef → Place → ℕ → List RowReason
reasons s live p place x = map (row_reason s live p place x) (filter (could_stand s.tables place) (below (length s.tables.rows)))

-- how many rows are of other devices
abbrev pub others : Tables → Place → ℕ
others t place = count_by (λ r. not (could_stand t place r)) (below (length t.rows))

-- the place of a spot
abbrev pub spot_place : Machine → ℕ → Place
spot_place m x = option_map_or (λ spot. spot.place) (slice_get m.spots x) Root

-- what is told of a spot below the device of a serial, or below the root
unfoldable pub told_of : Setup → List Dev → ℕ → ℕ → Told
told_of s live p x = record {
  rows = reasons s live (parent_ref s live p) (spot_place s.machine x) x;
  others = others s.tables (spot_place s.machine x);
}

-- ---- match lines

-- the last line for an attachment and a spot, or for all spots
abbrev pub last_line : List MatchLine → ℕ → Option ℕ → Option MatchLine
last_line lines attach spot = find (λ line. line.attach == attach && same_spot line.spot spot) (reverse lines)

-- the line that says how well an attachment matches a spot
abbrev pub counting_line : Machine → ℕ → ℕ → Option MatchLine
counting_line m attach x = option_or (last_line m.matches attach (Some x)) (last_line m.matches attach None)
