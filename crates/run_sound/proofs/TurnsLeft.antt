-- A turn that brings no device leaves its scan fewer turns.
use Rattle.std.proofs.Common.{◌≡◌, ◌<◌, ◌≤◌, ◌+◌, ◌*◌, ◌-◌, ℕ, suc, Bool, true, false, not, ◌&&◌, ◌||◌, ◌==◌, nat_lt, List, [], ◌∷◌, map, length, Option, Some, None, option_map, refl, inl, inr, arith, eq-eqb}
use Rattle.std.specs.List.{AllByRecursion, enumerate_from}
use Rattle.std.specs.Option.{option_map_or}
use Rattle.std.proofs.Math.Nat.{mul-le-mul_left}
use Rattle.std.proofs.lemmas.Bool.{cases_lt, false_from_ne_true, or_right}
use Rattle.std.proofs.lemmas.Bool.Decides.{nat_tests}
use Rattle.std.proofs.lemmas.List.{length-map}
use Rattle.cf_types.specs.Numbers.{below}
use Rattle.cf_types.specs.declared.tables.Place.{Place}
use Rattle.cf_types.specs.declared.tables.Place.TheVariants.{Root, At}
use Rattle.run_rules.specs.declared.world.Setup.{Setup}
use Rattle.run_rules.specs.declared.world.Dev.{Dev}
use Rattle.run_rules.specs.declared.world.Arrival.{Arrival}
use Rattle.run_rules.specs.declared.world.Position.{Position}
use Rattle.run_rules.specs.declared.world.Turn.{Turn}
use Rattle.run_rules.specs.declared.world.Wanted.{Wanted}
use Rattle.run_rules.specs.World.{World, is_number}
use Rattle.run_rules.specs.Search.{bus_turns, driver_at, places_of, turns_of, after_turn, child_spots, due, is_before, is_due, is_indirect, scan_places, spot_of, turns, turns_at, unit_of, winner_at}
use Rattle.cf_types.specs.Offers.{interfaces}
use Rattle.run_rules.specs.Next.{arrival}
use Rattle.run_rules.proofs.Free.{due_forward, due_wins}
use Rattle.run_sound.proofs.Coming.{IsTurn}
use Rattle.run_sound.specs.Kept.{MayRun}
use Rattle.run_sound.specs.Left.{turns_left}
use Rattle.run_sound.proofs.Arrivals.{due_inside}
use Rattle.run_sound.proofs.Members.{all_flat, all_flat_of, found_of}
use Rattle.run_sound.proofs.Callers.{clash}

-- ---- a scan goes through few places

few_places : (s : Setup) (live : List Dev) (p : ℕ) (only : Option ℕ) → MayRun s → length (scan_places s live p only) ≤ 64
unfolding places_of
few_places s live p (Some a) may = omega arith
few_places s live p None may = cases (driver_at s live p)
  where
    cases : (o : Option ℕ) → length (option_map_or (λ d. map At (interfaces s.tables.attrs s.tables.devices d)) o (Root ∷ [])) ≤ 64
    cases None = omega arith
    cases (Some d) = omega (arith, length-map (interfaces s.tables.attrs s.tables.devices d) At, may.tables.graph.few_offered_by_device d)

low_numbers : {A : Type 0} (first bound : ℕ) (xs : List A) → first + length xs ≤ bound → AllByRecursion (λ (e : ℕ × A). e.0 < bound) (enumerate_from first xs)
low_numbers first bound [] le = tt
low_numbers first bound (x ∷ xs) le = (omega arith, low_numbers (first + 1) bound xs (omega arith))

-- ---- each turn

-- its place is one of 64, and on a direct bus it has no row
record IsCounted (t : Turn) : Type 0 where
  low : t.at.attr < 64
  direct : t.indirect ≡ false → t.at.row ≡ 0

turns_at_placed : (s : Setup) (live : List Dev) (p : ℕ) (e : ℕ × Place) → e.0 < 64 → AllByRecursion IsCounted (turns_at s live p e)
unfolding bus_turns
turns_at_placed s live p e low = cases (is_indirect s live p e.1)
  where
    mapped : (f : ℕ → Turn) → ((x : ℕ) → IsCounted (f x)) → (xs : List ℕ) → AllByRecursion IsCounted (map f xs)
    mapped f h [] = tt
    mapped f h (x ∷ xs) = (h x, mapped f h xs)

    xs : List ℕ
    xs = child_spots s.machine (spot_of live p) e.1

    pair : ℕ → ℕ → Turn
    pair r x = record { at = record { attr = e.0; row = r; spot = x }; place = e.1; indirect = true }

    pair_placed : (r x : ℕ) → IsCounted (pair r x)
    pair_placed r x = record { low = low; direct = λ h. absurd (never h) }
      where
        never : true ≡ false → ⊥
        never h = cc

    spot : ℕ → Turn
    spot x = record { at = record { attr = e.0; row = 0; spot = x }; place = e.1; indirect = false }

    spot_placed : (x : ℕ) → IsCounted (spot x)
    spot_placed x = record { low = low; direct = λ h. refl }

    cases : (b : Bool) → AllByRecursion IsCounted (bus_turns s.machine (length s.tables.rows) b (spot_of live p) e)
    cases true = all_flat IsCounted (λ r. map (pair r) xs) (below (length s.tables.rows)) (λ r. mapped (pair r) (pair_placed r) xs)
    cases false = mapped spot spot_placed xs

due_placed : (s : Setup) (live : List Dev) (absent hidden : List ℕ) (p : ℕ) (only : Option ℕ) (wanted : List Wanted) (from : Position) (t : Turn)
    → MayRun s → due s live absent hidden p only wanted from ≡ Some t → IsCounted t
unfolding due turns_of
due_placed s live absent hidden p only wanted from t may e =
    found_of IsCounted (λ t. not (is_before t.at from) && is_due s live absent hidden p wanted t) (turns s live p only) t
    (all_flat_of IsCounted (λ (e : ℕ × Place). e.0 < 64) (turns_at s live p) (enumerate_from 0 (scan_places s live p only)) (turns_at_placed s live p)
    (low_numbers 0 64 (scan_places s live p only) (omega (arith, few_places s live p only may)))) e

-- ---- what brings no device is no turn of an indirect bus

-- there its row is the winner
indirect_brings : (s : Setup) (live : List Dev) (absent hidden : List ℕ) (p : ℕ) (only : Option ℕ) (wanted : List Wanted) (from : Position) (t : Turn)
    → due s live absent hidden p only wanted from ≡ Some t → None ≡ arrival s live p t.place t.at.spot → t.indirect ≡ false
unfolding arrival
indirect_brings s live absent hidden p only wanted from t e none = false_from_ne_true t.indirect (λ h. cases (winner_at s live p t.place t.at.spot) (due_wins s live absent hidden p only wanted from t e h) none)
  where
    cases : (o : Option ℕ) → is_number o t.at.row ≡ true → None ≡ option_map {U = Arrival} (λ r. record { row = r; unit = unit_of s live r; parent = p; spot = t.at.spot }) o → ⊥
    cases None won h = cc
    cases (Some r) won h = cc

-- ---- how much is left

pub less_product : (a b c : ℕ) → a ≤ b → a * c ≤ b * c
less_product a b c le = grind (arith, mul-le-mul_left)

abbrev earlier : ℕ → ℕ → ℕ → ℕ → ℕ → ℕ → Bool
earlier a b r q x y = nat_lt a b || (a == b && (nat_lt r q || (r == q && nat_lt x y)))

earlier_attr : (a b r q x y : ℕ) → a < b → earlier a b r q x y ≡ true
earlier_attr a b r q x y lt = let test : nat_lt a b ≡ true = grind (arith, nat_tests) in rw test refl

earlier_spot : (a r q x y : ℕ) → r ≡ 0 → x < y → earlier a a r q x y ≡ true
earlier_spot a r q x y low lt =
    let same : (a == a) ≡ true = eq-eqb a a refl in
    let test : nat_lt x y ≡ true = grind (arith, nat_tests) in
    or_right (nat_lt a a) (a == a && (nat_lt r q || (r == q && nat_lt x y)))
    (rw (same, test)
    (elim (cases_lt r q) [
      | inl less ↦ let row : nat_lt r q ≡ true = grind (arith, nat_tests) in rw row refl
      | inr more ↦ let row : (r == q) ≡ true = eq-eqb r q (omega arith) in rw row (or_right (nat_lt r q) true refl)
    ]))

attr_falls : (n a b x y : ℕ) → b < a → a < 64 → (64 - a) * (n + 1) + (n - x) < (64 - b) * (n + 1) + (n - y)
attr_falls n a b x y past low =
    let less : suc (64 - a) * (n + 1) ≤ (64 - b) * (n + 1) = less_product (suc (64 - a)) (64 - b) (n + 1) (omega arith) in
    let more : suc (64 - a) * (n + 1) ≡ (64 - a) * (n + 1) + (n + 1) = grind arith in
    omega (arith, less, more)

-- a turn of a direct bus that is not before the position leaves fewer
not_before : (n : ℕ) (t from : Position) → t.attr < 64 → t.spot < n → t.row ≡ 0 → is_before t from ≡ false
    → turns_left n (record { attr = t.attr; row = 0; spot = t.spot + 1 }) < turns_left n from
unfolding is_before
not_before n t from low inside row h =
    elim (cases_lt t.attr from.attr) [
      | inl before ↦ clash (is_before t from) (earlier_attr t.attr from.attr t.row from.row t.spot from.spot before) h
      | inr not_less ↦ elim (cases_lt from.attr t.attr) [
        | inl past ↦ attr_falls n t.attr from.attr (t.spot + 1) from.spot past low
        | inr not_more ↦
            let same : t.attr ≡ from.attr = omega arith in
            elim (cases_lt t.spot from.spot) [
              | inl before ↦ clash (is_before t from) (rw same (earlier_spot from.attr t.row from.row t.spot from.spot row before)) h
              | inr from_there ↦ rw same (omega (arith, inside))
            ]
      ]
    ]

pub lessens : (w : World) (k p spot : ℕ) (to : Position) → MayRun w.setup → (t : IsTurn w k p spot to None) → turns_left (length w.setup.machine.spots) to < turns_left (length w.setup.machine.spots) t.from
unfolding after_turn
lessens w k p spot to may t =
    let x : Turn = t.turn in
    let placed : IsCounted x = due_placed w.setup w.live w.absent w.hidden p t.only t.wanted t.from x may t.is_due in
    let direct : x.indirect ≡ false = indirect_brings w.setup w.live w.absent w.hidden p t.only t.wanted t.from x t.is_due t.came in
    let moved : to ≡ record { attr = x.at.attr; row = 0; spot = x.at.spot + 1 } = rw direct at t.moved in
    rw moved
    (not_before (length w.setup.machine.spots) x.at t.from placed.low (due_inside w.setup w.live w.absent w.hidden p t.only t.wanted t.from x t.is_due) (placed.direct direct)
    (due_forward w.setup w.live w.absent w.hidden p t.only t.wanted t.from x t.is_due))
