-- The turns of a scan stand in the order of their positions, and what each of them tells.
use Rattle.std.proofs.Common.{◌≡◌, ℕ, ◌+◌, ◌<◌, ◌≤◌, Bool, true, false, ◌&&◌, List, length, map, filter, slice_get, Option, Some, None, option_map, refl, ap, ◌∙◌, arith}
use Rattle.std.specs.List.{AllByRecursion, enumerate_from}
use Rattle.std.specs.Option.{option_map_or}
use Rattle.std.proofs.lemmas.Bool.{eqb-true}
use Rattle.std.proofs.lemmas.Bool.Decides.{nat_tests}
use Rattle.std.proofs.lemmas.List.{length-map}
use Rattle.run_rules.proofs.Each.{all_map, all_below, later_filter}
use Rattle.cf_types.specs.declared.machine.Machine.{Machine}
use Rattle.cf_types.specs.declared.machine.Spot.{Spot}
use Rattle.cf_types.specs.declared.tables.Tables.{Tables}
use Rattle.cf_types.specs.declared.tables.Place.{Place}
use Rattle.cf_types.specs.declared.tables.Place.TheVariants.{Root, At}
use Rattle.cf_types.specs.Numbers.{below}
use Rattle.cf_types.specs.Offers.{interfaces}
use Rattle.run_rules.specs.declared.world.Turn.{Turn}
use Rattle.run_rules.specs.World.{same_place}
use Rattle.run_rules.specs.Search.{same_spot, is_child, child_spots, is_before, is_bus_indirect, places_of, bus_turns, turns_of}
use Rattle.run_rules.specs.Sound.{EachLater}
use Rattle.run_rules.proofs.Below.{and_both}
use Rattle.scan_engine.specs.Turns.{IsTurn}
use Rattle.scan_engine.proofs.Positions.{by_attr, by_row, on_row}
use Rattle.scan_engine.proofs.Order.{all_weaken, all_of, all_filter, all_flat, all_enumerated, later_map, later_weaken, later_flat, later_below, later_enumerated}

-- the first turn stands before the second
abbrev pub Earlier : Turn → Turn → Type 0
Earlier t u = is_before t.at u.at ≡ true

later_spot : (a r x y : ℕ) → x < y → is_before (record { attr = a; row = r; spot = x }) (record { attr = a; row = r; spot = y }) ≡ true
later_spot a r x y lt = on_row a r x y ∙ grind (arith, nat_tests)

-- ---- the child spots of a place

all_children : (P : Turn → Type 0) (f : ℕ → Turn) (m : Machine) (parent : Option ℕ) (place : Place) → ((x : ℕ) → x < length m.spots → is_child m parent place x ≡ true → P (f x))
    → AllByRecursion P (map f (child_spots m parent place))
unfolding child_spots
all_children P f m parent place h =
    let spots = below (length m.spots) in
    let child = is_child m parent place in
    all_map P f (filter child spots)
    (all_weaken (λ x. (x < length m.spots) × (child x ≡ true)) (λ x. P (f x)) (filter child spots) (λ x both. h x both.0 both.1)
    (all_filter (λ x. x < length m.spots) child spots (all_below (length m.spots))))

later_children : (f : ℕ → Turn) (m : Machine) (parent : Option ℕ) (place : Place) → ((x y : ℕ) → x < y → Earlier (f x) (f y)) → EachLater Earlier (map f (child_spots m parent place))
unfolding child_spots
later_children f m parent place h =
    let spots = below (length m.spots) in
    let child = is_child m parent place in
    later_map Earlier f (filter child spots)
    (later_filter (λ x y. Earlier (f x) (f y)) child spots (later_weaken (λ x y. x < y) (λ x y. Earlier (f x) (f y)) spots h (later_below (length m.spots))))

-- ---- the turns of one place

abbrev pub turn_of : ℕ × Place → Bool → ℕ → ℕ → Turn
turn_of e indirect r x = record { at = record { attr = e.0; row = r; spot = x }; place = e.1; indirect = indirect }

-- what each of them has
pub all_bus : (P : Turn → Type 0) (m : Machine) (rows : ℕ) (indirect : Bool) (parent : Option ℕ) (e : ℕ × Place)
    → ((r x : ℕ) → (indirect ≡ true → r < rows) → (indirect ≡ false → r ≡ 0) → x < length m.spots → is_child m parent e.1 x ≡ true → P (turn_of e indirect r x))
    → AllByRecursion P (bus_turns m rows indirect parent e)
unfolding bus_turns
all_bus P m rows false parent e h =
    all_children P (turn_of e false 0) m parent e.1 (λ x lt child. h 0 x (λ is. absurd cc) (λ is. refl) lt child)
all_bus P m rows true parent e h =
    all_flat P (λ r. map (turn_of e true r) (child_spots m parent e.1)) (below rows)
    (all_weaken (λ r. r < rows) (λ r. AllByRecursion P (map (turn_of e true r) (child_spots m parent e.1))) (below rows)
    (λ r row. all_children P (turn_of e true r) m parent e.1 (λ x lt child. h r x (λ is. row) (λ is. absurd cc) lt child)) (all_below rows))

later_bus : (m : Machine) (rows : ℕ) (indirect : Bool) (parent : Option ℕ) (e : ℕ × Place) → EachLater Earlier (bus_turns m rows indirect parent e)
unfolding bus_turns
later_bus m rows false parent e = later_children (turn_of e false 0) m parent e.1 (λ x y lt. later_spot e.0 0 x y lt)
later_bus m rows true parent e =
    let row : ℕ → List Turn = λ r. map (turn_of e true r) (child_spots m parent e.1) in
    later_flat Earlier row (below rows)
    (all_of (λ r. EachLater Earlier (row r)) (below rows) (λ r. later_children (turn_of e true r) m parent e.1 (λ x y lt. later_spot e.0 r x y lt)))
    (later_weaken (λ r q. r < q) (λ r q. AllByRecursion (λ t. AllByRecursion (Earlier t) (row q)) (row r)) (below rows)
    (λ r q lt. all_children (λ t. AllByRecursion (Earlier t) (row q)) (turn_of e true r) m parent e.1
    (λ x few child. all_children (Earlier (turn_of e true r x)) (turn_of e true q) m parent e.1 (λ y less also. by_row (record { attr = e.0; row = r; spot = x }) (record { attr = e.0; row = q; spot = y }) refl lt))) (later_below rows))

-- ---- all turns

abbrev bus : Tables → Machine → Option ℕ → Option ℕ → ℕ × Place → List Turn
bus t m attach spot e = bus_turns m (length t.rows) (is_bus_indirect m attach e.1) spot e

attr_is : (t : Tables) (m : Machine) (attach spot : Option ℕ) (e : ℕ × Place) → AllByRecursion (λ u. u.at.attr ≡ e.0) (bus t m attach spot e)
attr_is t m attach spot e = all_bus (λ u. u.at.attr ≡ e.0) m (length t.rows) (is_bus_indirect m attach e.1) spot e (λ r x row straight lt child. refl)

-- each turn stands before all later ones
pub in_order : (t : Tables) (m : Machine) (driver attach spot only : Option ℕ) → EachLater Earlier (turns_of t m driver attach spot only)
unfolding turns_of
in_order t m driver attach spot only =
    let places = enumerate_from 0 (places_of t driver only) in
    later_flat Earlier (bus t m attach spot) places
    (all_of (λ e. EachLater Earlier (bus t m attach spot e)) places (λ e. later_bus m (length t.rows) (is_bus_indirect m attach e.1) spot e))
    (later_weaken (λ a b. a.0 < b.0) (λ a b. AllByRecursion (λ u. AllByRecursion (Earlier u) (bus t m attach spot b)) (bus t m attach spot a)) places
    (λ a b lt. all_weaken (λ u. u.at.attr ≡ a.0) (λ u. AllByRecursion (Earlier u) (bus t m attach spot b)) (bus t m attach spot a)
    (λ u is. all_weaken (λ v. v.at.attr ≡ b.0) (Earlier u) (bus t m attach spot b) (λ v also. by_attr u.at v.at (omega (arith, is, also, lt))) (attr_is t m attach spot b))
    (attr_is t m attach spot a)) (later_enumerated 0 (places_of t driver only)))

same_place_is : (a b : Place) → same_place a b ≡ true → a ≡ b
same_place_is Root Root h = refl
same_place_is Root (At b) h = absurd cc
same_place_is (At a) Root h = absurd cc
same_place_is (At a) (At b) h = ap At (eqb-true a b h)

-- a child's place is the place
child_place : (m : Machine) (parent : Option ℕ) (place : Place) (x : ℕ) → is_child m parent place x ≡ true → option_map (λ spot. spot.place) (slice_get m.spots x) ≡ Some place
child_place m parent place x = cases (slice_get m.spots x)
  where
    cases : (o : Option Spot) → option_map_or (λ spot. same_spot spot.parent parent && same_place spot.place place) o false ≡ true → option_map (λ spot. spot.place) o ≡ Some place
    cases None h = absurd cc
    cases (Some spot) h = ap Some (same_place_is spot.place place (and_both (same_spot spot.parent parent) (same_place spot.place place) h).1)

few_places : (t : Tables) (driver only : Option ℕ) → ((d : ℕ) → length (interfaces t.attrs t.devices d) ≤ 64) → length (places_of t driver only) ≤ 64
unfolding places_of
few_places t driver (Some a) few = omega arith
few_places t None None few = omega arith
few_places t (Some d) None few = omega (arith, few d, length-map (interfaces t.attrs t.devices d) At)

-- and each is of a spot that hangs there
pub all_turns : (t : Tables) (m : Machine) (driver attach spot only : Option ℕ) → ((d : ℕ) → length (interfaces t.attrs t.devices d) ≤ 64)
    → AllByRecursion (IsTurn t m spot) (turns_of t m driver attach spot only)
unfolding turns_of
all_turns t m driver attach spot only few =
    let places = places_of t driver only in
    all_flat (IsTurn t m spot) (bus t m attach spot) (enumerate_from 0 places)
    (all_weaken (λ e. (0 ≤ e.0) × (e.0 < 0 + length places)) (λ e. AllByRecursion (IsTurn t m spot) (bus t m attach spot e)) (enumerate_from 0 places)
    (λ e both. all_bus (IsTurn t m spot) m (length t.rows) (is_bus_indirect m attach e.1) spot e
    (λ r x row straight lt child. record {
      spot = lt;
      attr = omega (arith, both.1, few_places t driver only few);
      row = row;
      straight = straight;
      child = child;
      place = child_place m spot e.1 x child;
    }))
    (all_enumerated 0 places))
