-- The turns of a bus, and those of later places.
use Rattle.std.proofs.Common.{◌≡◌, ◌+◌, ◌<◌, ◌∙◌, ℕ, Bool, true, false, List, [], ◌∷◌, length, map, drop, Option, Some, None, get_or, refl, sym, ap, drop-cons, add-one, ◌&&◌, ◌||◌, ◌==◌, eq-eqb, arith}
use Rattle.std.specs.Prelude.{find, flat_map, nat_lt, option_map}
use Rattle.std.proofs.lemmas.Bool.Decides.{nat_tests}
use Rattle.std.specs.List.{enumerate_from}
use Rattle.cf_types.specs.declared.tables.Place.{Place}
use Rattle.cf_types.specs.declared.tables.Place.TheVariants.{Root, At}
use Rattle.cf_types.specs.Offers.{interfaces}
use Rattle.std.proofs.lemmas.List.{append-nil}
use Rattle.run_rules.specs.declared.world.Dev.{Dev}
use Rattle.run_rules.specs.declared.world.Setup.{Setup}
use Rattle.run_rules.specs.declared.world.Turn.{Turn}
use Rattle.run_rules.specs.declared.world.Position.{Position}
use Rattle.run_rules.specs.Search.{is_before, is_child, attach_at, bus_turns, child_spots, driver_at, places_of, spot_of, is_bus_indirect, turns, turns_at, turns_of}
use Rattle.run_rules.proofs.Below.{find-none}
use Rattle.run_rules.proofs.Turns.{find_children, find_first, find_later}
use Rattle.plain_search.proofs.IndirectLaws.{pairs_none}
use Rattle.plain_world.specs.declared.rules.Rules.{Rules}
use Rattle.plain_world.specs.declared.world.Plain.{Plain}
use Rattle.plain_search.specs.declared.turns.Going.{Going}
use Rattle.plain_search.specs.declared.turns.Bus.{Bus}
use Rattle.plain_search.specs.Buses.{row_turns, takes, turn_on, turns_on}

pub indirect_is : (r : Rules) (parent : Option ℕ) (b : Bus) → b.indirect ≡ true → turns_on r parent b ≡ row_turns r parent b
unfolding bus_turns
indirect_is r parent b on = rw on refl

pub direct_is : (r : Rules) (parent : Option ℕ) (b : Bus) → b.indirect ≡ false → turns_on r parent b ≡ map (turn_on b 0) (child_spots r.machine parent b.place)
unfolding bus_turns
direct_is r parent b off = rw off refl

-- ---- spots

earlier : (a r x y : ℕ) → x < y → (nat_lt a a || (a == a && (nat_lt r r || (r == r && nat_lt x y)))) ≡ true
earlier a r x y lt =
    let attr : (a == a) ≡ true = eq-eqb a a refl in
    let row : (r == r) ≡ true = eq-eqb r r refl in
    let spot : nat_lt x y ≡ true = grind (arith, nat_tests) in
    rw (attr, row, spot) (or_true (nat_lt a a) (nat_lt r r))
  where
    or_true : (b c : Bool) → (b || (true && (c || (true && true)))) ≡ true
    or_true true c = refl
    or_true false true = refl
    or_true false false = refl

-- a turn of the position's bus and row at an earlier spot is before it
pub spot_before : (b : Bus) (row x : ℕ) (from : Position) → b.attr ≡ from.attr → row ≡ from.row → x < from.spot → is_before (turn_on b row x).at from ≡ true
unfolding is_before
spot_before b row x from attr same lt = rw (attr, same) (earlier from.attr from.row x from.spot lt)

-- and one at an earlier row, whatever the spot
earlier_row : (a q r x y : ℕ) → q < r → (nat_lt a a || (a == a && (nat_lt q r || (q == r && nat_lt x y)))) ≡ true
earlier_row a q r x y lt =
    let attr : (a == a) ≡ true = eq-eqb a a refl in
    let row : nat_lt q r ≡ true = grind (arith, nat_tests) in
    rw (attr, row) (or_same (nat_lt a a))
  where
    or_same : (b : Bool) → (b || (true && (true || (q == r && nat_lt x y)))) ≡ true
    or_same true = refl
    or_same false = refl

pub row_before : (b : Bus) (row x : ℕ) (from : Position) → b.attr ≡ from.attr → row < from.row → is_before (turn_on b row x).at from ≡ true
unfolding is_before
row_before b row x from attr lt = rw attr (earlier_row from.attr row from.row x from.spot lt)

-- what is before the position is not taken
pub passed_by : (r : Rules) (p : Plain) (g : Going) (t : Turn) (child : Bool) → is_before t.at g.from ≡ true → (child && takes r p g t) ≡ false
passed_by r p g t child before = rw before (and_false child)
  where
    and_false : (b : Bool) → (b && false) ≡ false
    and_false true = refl
    and_false false = refl

-- ---- places

earlier_attr : (a b : ℕ) (rest : Bool) → a < b → (nat_lt a b || rest) ≡ true
earlier_attr a b rest lt = let less : nat_lt a b ≡ true = grind (arith, nat_tests) in rw less refl

-- at a place before that of the position no turn is taken
attr_before : (r : Rules) (p : Plain) (g : Going) (t : Turn) (child : Bool) → t.at.attr < g.from.attr → (child && takes r p g t) ≡ false
unfolding is_before
attr_before r p g t child lt = passed_by r p g t child (earlier_attr t.at.attr g.from.attr _ lt)

pub place_behind : (r : Rules) (p : Plain) (g : Going) (live : List Dev) (serial attr : ℕ) (place : Place) → attr < g.from.attr → find (takes r p g) (turns_at r live serial (attr, place)) ≡ None
unfolding bus_turns
place_behind r p g live serial attr place lt = cases (is_bus_indirect r.machine (attach_at r live serial) place)
  where
    cases : (indirect : Bool) → find (takes r p g) (bus_turns r.machine (length r.tables.rows) indirect (spot_of live serial) (attr, place)) ≡ None
    cases false =
        find_children (takes r p g) (λ x. record { at = record { attr = attr; row = 0; spot = x }; place = place; indirect = false }) r.machine (spot_of live serial) place
        ∙ ap (option_map (λ (x : ℕ). record { at = record { attr = attr; row = 0; spot = x }; place = place; indirect = false }))
        (find-none _ (length r.machine.spots) (λ x less. attr_before r p g (record { at = record { attr = attr; row = 0; spot = x }; place = place; indirect = false }) (is_child r.machine (spot_of live serial) place x) lt))
    cases true =
        pairs_none (takes r p g) (λ row x. record { at = record { attr = attr; row = row; spot = x }; place = place; indirect = true }) r.machine (spot_of live serial) place (length r.tables.rows)
        (λ row x. attr_before r p g (record { at = record { attr = attr; row = row; spot = x }; place = place; indirect = true }) (is_child r.machine (spot_of live serial) place x) lt)

-- the places from one on
places_from : (attrs : List ℕ) (i : ℕ) → i < length attrs → enumerate_from i (map At (drop i attrs)) ≡ (i, At (get_or attrs i 0)) ∷ enumerate_from (i + 1) (map At (drop (i + 1) attrs))
places_from attrs i lt = ap (λ (rest : List ℕ). enumerate_from i (map At rest)) (drop-cons attrs i 0 lt) ∙ rw add-one refl

-- the turn of the first place that has one
pub place_found : (q : Turn → Bool) (f : ℕ × Place → List Turn) (attrs : List ℕ) (i : ℕ) (t : Turn) → i < length attrs → find q (f (i, At (get_or attrs i 0))) ≡ Some t
    → find q (flat_map f (enumerate_from i (map At (drop i attrs)))) ≡ Some t
place_found q f attrs i t lt e =
    ap (λ (places : List (ℕ × Place)). find q (flat_map f places)) (places_from attrs i lt) ∙ find_first q f (i, At (get_or attrs i 0)) (enumerate_from (i + 1) (map At (drop (i + 1) attrs))) t e

-- a place without one is passed
pub place_passed : (q : Turn → Bool) (f : ℕ × Place → List Turn) (attrs : List ℕ) (i : ℕ) → i < length attrs → find q (f (i, At (get_or attrs i 0))) ≡ None
    → find q (flat_map f (enumerate_from (i + 1) (map At (drop (i + 1) attrs)))) ≡ find q (flat_map f (enumerate_from i (map At (drop i attrs))))
place_passed q f attrs i lt e =
    sym (ap (λ (places : List (ℕ × Place)). find q (flat_map f places)) (places_from attrs i lt)
    ∙ find_later q f (i, At (get_or attrs i 0)) (enumerate_from (i + 1) (map At (drop (i + 1) attrs))) _ e refl)

-- ---- all turns

-- those of a device are at the attributes that its driver offers
pub device_turns : (q : Turn → Bool) (s : Setup) (live : List Dev) (p d : ℕ) (o : Option Turn) → Some d ≡ driver_at s live p
    → find q (flat_map (turns_at s live p) (enumerate_from 0 (map At (interfaces s.tables.attrs s.tables.devices d)))) ≡ o → find q (turns s live p None) ≡ o
unfolding turns_of places_of
device_turns q s live p d o there e = ap (λ driver. find q (turns_of s.tables s.machine driver (attach_at s live p) (spot_of live p) None)) (sym there) ∙ e

-- and those of the root at the root alone
pub root_turns : (q : Turn → Bool) (s : Setup) (live : List Dev) (p : ℕ) (o : Option Turn) → None ≡ driver_at s live p → find q (turns_at s live p (0, Root)) ≡ o → find q (turns s live p None) ≡ o
unfolding turns_of places_of
root_turns q s live p o none e =
    ap (λ driver. find q (turns_of s.tables s.machine driver (attach_at s live p) (spot_of live p) None)) (sym none)
    ∙ ap (find q) (append-nil (turns_at s live p (0, Root))) ∙ e

-- and those of one attribute at it
pub one_turns : (q : Turn → Bool) (s : Setup) (live : List Dev) (p a : ℕ) → turns s live p (Some a) ≡ flat_map (turns_at s live p) (enumerate_from 0 (map At (a ∷ [])))
unfolding turns_of places_of
one_turns q s live p a = refl
