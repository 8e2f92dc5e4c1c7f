-- The rows that may take a spot now, and the winner among them.
use Rattle.std.proofs.Common.{◌≡◌, ◌<◌, ℕ, zero, suc, Bool, true, false, ◌&&◌, ◌||◌, ◌==◌, cond, nat_lt, List, [], ◌∷◌, ◌++◌, length, map, find, is_some, Option, Some, None, option_map, slice_get, slice_index_or, refl, sym, ap, ◌∙◌, inl, inr, arith}
use Rattle.std.specs.Option.{option_map_or}
use Rattle.std.proofs.lemmas.Bool.{cases_lt}
use Rattle.std.proofs.lemmas.Option.{slice_get-map, slice_get_past}
use Rattle.cf_types.specs.Locators.{locators_at, submatch}
use Rattle.cf_types.specs.Numbers.{below}
use Rattle.cf_types.specs.declared.tables.Place.{Place}
use Rattle.cf_types.specs.declared.tables.Row.{Row}
use Rattle.match_search.specs.Best.{best_row, live_rows, may_take}
use Rattle.match_search.specs.Index as index
use Rattle.run_rules.specs.Suits.{hangs_at}
use Rattle.match_search.proofs.BestLaws.{row_is}
use Rattle.match_search.proofs.ListedLaws.{listed_is}
use Rattle.run_rules.specs.declared.world.Dev.{Dev}
use Rattle.run_rules.specs.declared.world.ParentRef.{ParentRef}
use Rattle.run_rules.specs.declared.world.Setup.{Setup}
use Rattle.run_rules.specs.Search.{fits, found_at, is_candidate, is_live_row, match_value, parent_offers, parent_ref, value_of}
use Rattle.run_rules.specs.World.{device_at, is_live}
use Rattle.run_rules.proofs.Winner.{best_alike, best_is, has_best}
use Rattle.live_rules.specs.Live.{LiveWorld, LiveSite, is_candidate_on, is_on, winner_on}
use Rattle.live_rules.proofs.Lists.{one_longer}
use Rattle.live_tables.specs.Open.{is_open, open_rows}

-- ---- marks

index_is : {A : Type 0} (xs : List A) (i : ℕ) (x d : A) → slice_get xs i ≡ Some x → slice_index_or xs i d ≡ x
index_is [] i x d e = absurd cc
index_is (y ∷ ys) zero x d e = cc
index_is (y ∷ ys) (suc i) x d e = index_is ys i x d e

got_inside : {A : Type 0} (xs : List A) (i : ℕ) (x : A) → slice_get xs i ≡ Some x → i < length xs
got_inside [] i x e = absurd cc
got_inside (y ∷ ys) zero x e = omega arith
got_inside (y ∷ ys) (suc i) x e = omega (arith, got_inside ys i x e)

length_below : (n : ℕ) → length (below n) ≡ n
length_below zero = refl
length_below (suc n) = omega (arith, one_longer (below n) n, length_below n)

get_before : (xs : List ℕ) (y i : ℕ) → i < length xs → slice_get (xs ++ y ∷ []) i ≡ slice_get xs i
get_before [] y i lt = absurd (omega arith)
get_before (x ∷ xs) y zero lt = refl
get_before (x ∷ xs) y (suc i) lt = get_before xs y i (omega arith)

get_last : (xs : List ℕ) (y : ℕ) → slice_get (xs ++ y ∷ []) (length xs) ≡ Some y
get_last [] y = refl
get_last (x ∷ xs) y = get_last xs y

-- a number below another one stands at its own place
below_at : (n i : ℕ) → i < n → slice_get (below n) i ≡ Some i
below_at zero i lt = absurd (omega arith)
below_at (suc n) i lt = elim (cases_lt i n) [
  | inl less ↦ get_before (below n) n i (omega (arith, length_below n)) ∙ below_at n i less
  | inr past ↦ let same : i ≡ length (below n) = omega (arith, lt, past, length_below n) in
      ap (slice_get (below n ++ n ∷ [])) same ∙ get_last (below n) n ∙ ap Some (omega (arith, lt, past))
]

open_is : (t : LiveSite) (w : LiveWorld) (r : ℕ) (row : Row) → slice_get t.setup.tables.rows r ≡ Some row
    → slice_index_or (open_rows t w) r false ≡ (is_on t w.on r && is_live_row t.setup w.live row)
unfolding open_rows
open_is t w r row at =
    index_is (map (is_open t w) (below (length t.setup.tables.rows))) r (is_on t w.on r && is_live_row t.setup w.live row) false
    (slice_get-map (is_open t w) (below (length t.setup.tables.rows)) r
    ∙ ap (option_map (is_open t w)) (below_at (length t.setup.tables.rows) r (got_inside t.setup.tables.rows r row at))
    ∙ ap (λ (o : Option Row). Some (is_on t w.on r && option_map_or (is_live_row t.setup w.live) o false)) at)

mark_is : (s : Setup) (live : List Dev) (r : ℕ) (row : Row) → slice_get s.tables.rows r ≡ Some row → slice_index_or (live_rows s live) r false ≡ is_live_row s live row
mark_is s live r row at =
    index_is (live_rows s live) r (is_live_row s live row) false (slice_get-map (is_live_row s live) s.tables.rows r ∙ ap (λ (o : Option Row). option_map (is_live_row s live) o) at)

none_past : {A : Type 0} (xs : List A) (i : ℕ) (d : A) → slice_get xs i ≡ None → slice_index_or xs i d ≡ d
none_past [] i d e = refl
none_past (y ∷ ys) zero d e = absurd cc
none_past (y ∷ ys) (suc i) d e = none_past ys i d e

both_ways : (a b : Bool) → (a && b) ≡ (b && a)
both_ways true true = refl
both_ways true false = refl
both_ways false true = refl
both_ways false false = refl

there : {A : Type 0} (xs : List A) (i : ℕ) → i < length xs → slice_get xs i ≡ None → ⊥
there [] i lt k = omega (arith, lt)
there (x ∷ xs) zero lt k = cc
there (x ∷ xs) (suc i) lt k = there xs i (omega (arith, lt)) k

none_open : (t : LiveSite) (w : LiveWorld) (r : ℕ) → slice_get t.setup.tables.rows r ≡ None → slice_index_or (open_rows t w) r false ≡ false
unfolding open_rows
none_open t w r e = elim (cases_lt r (length t.setup.tables.rows)) [
  | inl less ↦ absurd (there t.setup.tables.rows r less e)
  | inr past ↦ none_past (map (is_open t w) (below (length t.setup.tables.rows))) r false
      (slice_get-map (is_open t w) (below (length t.setup.tables.rows)) r
      ∙ ap (option_map (is_open t w)) (slice_get_past (below (length t.setup.tables.rows)) r (omega (arith, past, length_below (length t.setup.tables.rows)))))
]

-- a row that has a free unit is open where it is on
pub open_mark : (t : LiveSite) (w : LiveWorld) (marks : List Bool) (r : ℕ) (free : Bool) → marks ≡ live_rows t.setup w.live → free ≡ slice_index_or marks r false
    → (free && is_on t w.on r) ≡ slice_index_or (open_rows t w) r false
open_mark t w marks r free are is = cases (slice_get t.setup.tables.rows r) refl
  where
    rows : List Row
    rows = t.setup.tables.rows

    marked : free ≡ slice_index_or (live_rows t.setup w.live) r false
    marked = is ∙ ap (λ (ms : List Bool). slice_index_or ms r false) are

    cases : (o : Option Row) → slice_get rows r ≡ o → (free && is_on t w.on r) ≡ slice_index_or (open_rows t w) r false
    cases None e =
        ap (λ (b : Bool). b && is_on t w.on r) (marked ∙ none_past (live_rows t.setup w.live) r false (slice_get-map (is_live_row t.setup w.live) rows r ∙ ap (λ (o : Option Row). option_map (is_live_row t.setup w.live) o) e))
        ∙ sym (none_open t w r e)
    cases (Some row) e =
        ap (λ (b : Bool). b && is_on t w.on r) (marked ∙ mark_is t.setup w.live r row e) ∙ both_ways (is_live_row t.setup w.live row) (is_on t w.on r) ∙ sym (open_is t w r row e)

-- ---- the winner

may_take_is : (t : LiveSite) (w : LiveWorld) (p : ℕ) (place : Place) (x q : ℕ)
    → is_candidate_on t w p place x q ≡ may_take t.setup.tables t.setup.machine (open_rows t w) (parent_ref t.setup w.live p) place x q
unfolding is_candidate
may_take_is t w p place x q = cases (slice_get t.setup.tables.rows q) refl
  where
    pref : ParentRef
    pref = parent_ref t.setup w.live p

    and_false : (b : Bool) → (b && false) ≡ false
    and_false true = refl
    and_false false = refl

    regroup : (a b c d e : Bool) → (a && (b && c && d && e)) ≡ ((a && b) && c && d && e)
    regroup true b c d e = refl
    regroup false b c d e = refl

    cases : (o : Option Row) → slice_get t.setup.tables.rows q ≡ o
        → (is_on t w.on q && option_map_or (λ row. is_live_row t.setup w.live row && fits t.setup.tables pref place row
        && submatch (locators_at t.setup.tables.attrs place) row.locs (found_at t.setup.machine x) && nat_lt 0 (match_value t.setup.machine row.attach x)) o false)
        ≡ option_map_or (λ row. slice_index_or (open_rows t w) q false && fits t.setup.tables pref place row
        && submatch (locators_at t.setup.tables.attrs place) row.locs (found_at t.setup.machine x) && nat_lt 0 (match_value t.setup.machine row.attach x)) o false
    cases None e = and_false (is_on t w.on q)
    cases (Some row) e =
        rw (open_is t w q row e) (regroup (is_on t w.on q) (is_live_row t.setup w.live row) (fits t.setup.tables pref place row)
        (submatch (locators_at t.setup.tables.attrs place) row.locs (found_at t.setup.machine x)) (nat_lt 0 (match_value t.setup.machine row.attach x)))

best_on : (t : LiveSite) (w : LiveWorld) (p : ℕ) (place : Place) (x : ℕ)
    → best_row t.setup.tables t.setup.machine (open_rows t w) (parent_ref t.setup w.live p) place x ≡ winner_on t w p place x
unfolding winner_on
best_on t w p place x =
    let rows : ℕ = length t.setup.tables.rows in
    let test : ℕ → Bool = is_candidate_on t w p place x in
    let value : ℕ → ℕ = λ q. value_of t.setup q x in
    let found = has_best test value rows in
    sym (row_is t.setup.tables t.setup.machine (open_rows t w) (parent_ref t.setup w.live p) place x found.best
    (best_alike test (may_take t.setup.tables t.setup.machine (open_rows t w) (parent_ref t.setup w.live p) place x) value rows found.best (may_take_is t w p place x) found.is))
    ∙ sym (best_is test value rows found.best found.is)

-- the first open one of the rows that suit a spot, the best first
pub first_wins : (t : LiveSite) (w : LiveWorld) (p : ℕ) (place : Place) (x : ℕ) (listed : List (List ℕ)) → index.IsIndexOf t.setup.tables t.setup.machine listed
    → hangs_at t.setup.machine x place ≡ true → parent_offers t.setup.tables (parent_ref t.setup w.live p) place ≡ true
    → find (index.is_open_to t.setup.tables (open_rows t w) (parent_ref t.setup w.live p)) (slice_index_or listed x []) ≡ winner_on t w p place x
first_wins t w p place x listed of here offered =
    listed_is t.setup.tables t.setup.machine (open_rows t w) (parent_ref t.setup w.live p) place x listed of here offered ∙ best_on t w p place x

-- ---- devices

pub known_is : (live : List Dev) (s : ℕ) → is_some (device_at live s) ≡ is_live live s
known_is [] s = refl
known_is (d ∷ ds) s = elim (d.serial == s) as (λ b. is_some (cond b (Some d) (device_at ds s)) ≡ (b || is_live ds s)) [ true ↦ refl | false ↦ known_is ds s ]
