-- Which row takes a spot, under which unit, and which turn of a scan is due.
use Rattle.std.specs.Prelude.{ℕ, suc, ◌+◌, Bool, true, false, not, ◌&&◌, ◌||◌, ◌==◌, nat_lt, nat_le, if◌then◌else◌, List, [], ◌∷◌, length, reverse, map, filter, find, flat_map, slice_get, Option, Some, None, is_some, option_map, unwrap_or, ℤ}
use Rattle.std.specs.List.{list_any, list_all, enumerate_from}
use Rattle.std.specs.Option.{option_map_or}
use Rattle.std.specs.Ordering.{int_eq}
use Rattle.cf_types.specs.declared.tables.Tables.{Tables}
use Rattle.cf_types.specs.Offers.{offers, interfaces}
use Rattle.cf_types.specs.Locators.{locators_at, submatch}
use Rattle.cf_types.specs.declared.tables.Row.{Row}
use Rattle.cf_types.specs.declared.tables.ParentSpec.{ParentSpec}
use Rattle.cf_types.specs.declared.tables.Place.{Place}
use Rattle.cf_types.specs.declared.tables.Place.TheVariants.{Root, At}
use Rattle.cf_types.specs.declared.machine.Machine.{Machine}
use Rattle.run_rules.specs.declared.world.Dev.{Dev}
use Rattle.run_rules.specs.declared.world.Position.{Position}
use Rattle.run_rules.specs.declared.world.Wanted.{Wanted}
use Rattle.run_rules.specs.declared.world.Turn.{Turn}
use Rattle.run_rules.specs.declared.world.ParentRef.{ParentRef}
use Rattle.run_rules.specs.declared.world.ParentRef.TheVariants as under
use Rattle.run_rules.specs.declared.world.Setup.{Setup}
use Rattle.run_rules.specs.World.{has, same_place, is_number, device_at, row_at, driver_of, attach_of}
use Rattle.cf_types.specs.Numbers.{below}

-- ---- the best of some numbers

-- of the first n it passes the test, and none that passes has a greater value
abbrev pub is_best : (ℕ → Bool) → (ℕ → ℕ) → ℕ → ℕ → Bool
is_best passes value n i = passes i && list_all (λ j. not (passes j) || nat_le (value j) (value i)) (below n)

-- of the first n that pass the test the one of the greatest value, and of equals the first
abbrev pub first_best : (ℕ → Bool) → (ℕ → ℕ) → ℕ → Option ℕ
first_best passes value n = find (is_best passes value n) (below n)

-- ---- the winner: after autoconf(9), the best match

-- this project's profile: the last line for the attachment and the spot, else the last for the attachment and all spots, else 0
unfoldable pub match_value : Machine → ℕ → ℕ → ℕ
match_value m attach x =
    option_map_or (λ line. line.value) (find (λ line. line.attach == attach && is_number line.spot x) (reverse m.matches))
    (option_map_or (λ line. line.value) (find (λ line. line.attach == attach && not (is_some line.spot)) (reverse m.matches)) 0)

abbrev pub parent_ref : Setup → List Dev → ℕ → ParentRef
parent_ref s live p = option_map_or (λ d. under.Dev (driver_of s d.row) d.unit) (device_at live p) under.Root

abbrev pub names_parent : Option ParentSpec → ParentRef → Bool
names_parent None p = true
names_parent (Some spec) under.Root = false
names_parent (Some spec) (under.Dev d u) = spec.device == d && option_map_or (λ unit. unit == u) spec.unit true

-- the root offers the place root alone, and a device its interface attributes
abbrev pub parent_offers : Tables → ParentRef → Place → Bool
parent_offers t under.Root Root = true
parent_offers t under.Root (At a) = false
parent_offers t (under.Dev d u) Root = false
parent_offers t (under.Dev d u) (At a) = offers t.attrs t.devices d a

-- whether the row fits the parent at the place
abbrev pub fits : Tables → ParentRef → Place → Row → Bool
fits t p place row = same_place row.place place && parent_offers t p place && names_parent row.parent p

-- whether a live device has this driver and unit
abbrev pub is_taken : Setup → List Dev → ℕ → ℕ → Bool
is_taken s live device unit = list_any (λ d. driver_of s d.row == device && d.unit == unit) live

abbrev pub is_live_row : Setup → List Dev → Row → Bool
is_live_row s live row = row.star || not (is_taken s live row.device row.unit)

abbrev pub found_at : Machine → ℕ → List ℤ
found_at m x = option_map_or (λ spot. spot.found) (slice_get m.spots x) []

abbrev pub value_of : Setup → ℕ → ℕ → ℕ
value_of s r x = match_value s.machine (attach_of s r) x

-- a live row that fits, passes submatch and has a match value above 0
unfoldable pub is_candidate : Setup → List Dev → ParentRef → Place → ℕ → ℕ → Bool
is_candidate s live p place x r =
    option_map_or (λ row.
    is_live_row s live row && fits s.tables p place row
    && submatch (locators_at s.tables.attrs place) row.locs (found_at s.machine x)
    && nat_lt 0 (match_value s.machine row.attach x))
    (row_at s r) false

-- the best candidate by match value
unfoldable pub winner : Setup → List Dev → ParentRef → Place → ℕ → Option ℕ
winner s live p place x = first_best (is_candidate s live p place x) (λ r. value_of s r x) (length s.tables.rows)

-- how far the least free unit is from the first one; of so many numbers one is always free
unfoldable pub free_after : Setup → List Dev → ℕ → ℕ → ℕ
free_after s live device first = unwrap_or (find (λ k. not (is_taken s live device (first + k))) (below (suc (length live)))) 0

-- after config(5): the row's number; for a starred row the least that is not below its first unit and not taken
unfoldable pub unit_of : Setup → List Dev → ℕ → ℕ
unit_of s live r =
    option_map_or (λ row. if row.star then row.unit + free_after s live row.device row.unit else row.unit) (row_at s r) 0

-- ---- the turns of a scan: after autoconf(9), a bus is searched spot by spot, or, where it is indirect, row by row

abbrev pub passes_filter : List ℤ → List Wanted → Bool
passes_filter found wanted = list_all (λ v. option_map_or (λ value. int_eq value v.value) (slice_get found v.place) false) wanted

abbrev pub is_occupied : List Dev → ℕ → Bool
is_occupied live x = list_any (λ d. d.spot == x) live

-- a spot is open to search where it is present, not hidden, free, and passes the filter
unfoldable pub is_open : Machine → List Dev → List ℕ → List ℕ → List Wanted → ℕ → Bool
is_open m live absent hidden wanted x =
    not (has absent x) && not (has hidden x) && not (is_occupied live x) && passes_filter (found_at m x) wanted

abbrev pub same_spot : Option ℕ → Option ℕ → Bool
same_spot None None = true
same_spot (Some x) (Some y) = x == y
same_spot None (Some y) = false
same_spot (Some x) None = false

-- whether a spot hangs below another one, or below the root, at a place
abbrev pub is_child : Machine → Option ℕ → Place → ℕ → Bool
is_child m parent place x = option_map_or (λ spot. same_spot spot.parent parent && same_place spot.place place) (slice_get m.spots x) false

-- the spots that do, in file order
unfoldable pub child_spots : Machine → Option ℕ → Place → List ℕ
child_spots m parent place = filter (is_child m parent place) (below (length m.spots))

-- the spot of a device; none for the root
abbrev pub spot_of : List Dev → ℕ → Option ℕ
spot_of live s = option_map (λ d. d.spot) (device_at live s)

-- the driver of a device, and its attachment; none for the root
abbrev pub driver_at : Setup → List Dev → ℕ → Option ℕ
driver_at s live p = option_map (λ d. driver_of s d.row) (device_at live p)

abbrev pub attach_at : Setup → List Dev → ℕ → Option ℕ
attach_at s live p = option_map (λ d. attach_of s d.row) (device_at live p)

-- the places that a scan goes through: one alone in a rescan that names it, else all that the driver offers; without a driver the root
unfoldable pub places_of : Tables → Option ℕ → Option ℕ → List Place
places_of t driver (Some a) = At a ∷ []
places_of t driver None = option_map_or (λ d. map At (interfaces t.attrs t.devices d)) driver (Root ∷ [])

-- whether a place is an indirect bus below this attachment: the last style line for both; direct without one, and at the root
unfoldable pub is_bus_indirect : Machine → Option ℕ → Place → Bool
is_bus_indirect m attach Root = false
is_bus_indirect m None (At a) = false
is_bus_indirect m (Some attach) (At a) =
    option_map_or (λ line. line.indirect) (find (λ line. line.attach == attach && line.attr == a) (reverse m.styles)) false

-- the turns of one place below a spot: its child spots, or, where it is indirect, the pairs of one of so many rows and a child spot, rows first
unfoldable pub bus_turns : Machine → ℕ → Bool → Option ℕ → ℕ × Place → List Turn
bus_turns m rows false spot e =
    map (λ x. record { at = record { attr = e.0; row = 0; spot = x }; place = e.1; indirect = false }) (child_spots m spot e.1)
bus_turns m rows true spot e =
    flat_map (λ r. map (λ x. record { at = record { attr = e.0; row = r; spot = x }; place = e.1; indirect = true }) (child_spots m spot e.1)) (below rows)

-- the turns of a scan below a device of this driver and attachment on this spot, place by place; without all three below the root
unfoldable pub turns_of : Tables → Machine → Option ℕ → Option ℕ → Option ℕ → Option ℕ → List Turn
turns_of t m driver attach spot only =
    flat_map (λ e. bus_turns m (length t.rows) (is_bus_indirect m attach e.1) spot e) (enumerate_from 0 (places_of t driver only))

-- the same of the device of a serial
abbrev pub scan_places : Setup → List Dev → ℕ → Option ℕ → List Place
scan_places s live p only = places_of s.tables (driver_at s live p) only

abbrev pub is_indirect : Setup → List Dev → ℕ → Place → Bool
is_indirect s live p place = is_bus_indirect s.machine (attach_at s live p) place

abbrev pub turns_at : Setup → List Dev → ℕ → ℕ × Place → List Turn
turns_at s live p e = bus_turns s.machine (length s.tables.rows) (is_indirect s live p e.1) (spot_of live p) e

abbrev pub turns : Setup → List Dev → ℕ → Option ℕ → List Turn
turns s live p only = turns_of s.tables s.machine (driver_at s live p) (attach_at s live p) (spot_of live p) only

-- by attribute, then row, then spot
unfoldable pub is_before : Position → Position → Bool
is_before a b =
    nat_lt a.attr b.attr || (a.attr == b.attr && (nat_lt a.row b.row || (a.row == b.row && nat_lt a.spot b.spot)))

abbrev pub winner_at : Setup → List Dev → ℕ → Place → ℕ → Option ℕ
winner_at s live p place x = winner s live (parent_ref s live p) place x

-- its spot is open, and on an indirect attribute its row is the winner there, which is this project's profile
unfoldable pub is_due : Setup → List Dev → List ℕ → List ℕ → ℕ → List Wanted → Turn → Bool
is_due s live absent hidden p wanted t =
    is_open s.machine live absent hidden wanted t.at.spot && (not t.indirect || is_number (winner_at s live p t.place t.at.spot) t.at.row)

-- the first due turn that is not before the position; the position moves by events alone, so a spot may open after it was passed without one
unfoldable pub due : Setup → List Dev → List ℕ → List ℕ → ℕ → Option ℕ → List Wanted → Position → Option Turn
due s live absent hidden p only wanted from =
    find (λ t. not (is_before t.at from) && is_due s live absent hidden p wanted t) (turns s live p only)

-- the position after a turn: behind it, or at the first pair of the same row
unfoldable pub after_turn : Turn → Position
after_turn t =
    if t.indirect then record { attr = t.at.attr; row = t.at.row; spot = 0 } else record { attr = t.at.attr; row = 0; spot = t.at.spot + 1 }
