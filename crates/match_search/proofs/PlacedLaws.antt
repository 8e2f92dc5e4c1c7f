-- The rows of each place, with one more; and which of them may suit a spot.
use Rattle.std.proofs.Common.{◌≡◌, ℕ, ◌+◌, ◌<◌, ℤ, Bool, true, false, ◌&&◌, ◌||◌, nat_lt, List, [], ◌∷◌, ◌++◌, length, Option, Some, None, get_or, slice_get, cond, refl, subst, ◌∙◌, ap, inl, inr, add-one}
use Rattle.std.specs.Option.{option_map_or}
use Rattle.std.specs.Ordering.{int_eq}
use Rattle.std.proofs.lemmas.Bool.{eqb-true, or_cases, or_left, or_right}
use Rattle.std.proofs.lemmas.List.Elements.{filter-append}
use Rattle.std.proofs.lemmas.Option.{same_Some, slice_get_read, slice_get_within}
use Rattle.cf_types.proofs.OfferLemmas.{is_in-append}
use Rattle.cf_types.specs.declared.tables.Locator.{Locator}
use Rattle.cf_types.specs.declared.tables.Place.{Place}
use Rattle.cf_types.specs.declared.tables.Place.TheVariants.{Root, At}
use Rattle.cf_types.specs.declared.tables.Row.{Row}
use Rattle.cf_types.specs.Gather.{is_in}
use Rattle.cf_types.specs.Locators.{fits_locator, locators_at, submatch}
use Rattle.cf_types.specs.Numbers.{below}
use Rattle.run_rules.specs.Search.{found_at, match_value}
use Rattle.run_rules.specs.World.{same_place}
use Rattle.match_search.specs.declared.index.FirstLocator.{FirstLocator}
use Rattle.match_search.specs.declared.index.Sought.{Sought}
use Rattle.match_search.specs.declared.placed.PlaceKey.{PlaceKey}
use Rattle.match_search.specs.declared.lists.PlaceLists.{PlaceLists}
use Rattle.match_search.specs.Lists.{AreListed, rows_in}
use Rattle.match_search.specs.Placed.{is_under, rows_under}
use Rattle.match_search.specs.Sought.{HaveAll, first_locator, suits_at}
use Rattle.run_rules.proofs.BestFirst.{in_below}
use Rattle.run_rules.proofs.FirstPassing.{in_kept}

-- ---- one row more

abbrev pub if_is : Bool → ℕ → List ℕ
if_is b n = cond b (n ∷ []) []

-- the rows under a key among one row more
pub under_more : (rows : List Row) (key : PlaceKey) (i : ℕ) (row : Row) → i < length rows → row ≡ get_or rows i row
    → rows_under rows key (i + 1) ≡ rows_under rows key i ++ if_is (is_under key row) i
under_more rows key i row lt at =
    rw add-one (filter-append (λ r. option_map_or (is_under key) (slice_get rows r) false) (below i) (i ∷ []))
    ∙ ap (λ (o : Option Row). rows_under rows key i ++ if_is (option_map_or (is_under key) o false) i) (slice_get_read rows (length rows) i row refl lt at)

-- ---- which rows may suit a spot

-- a row that is under a key is among those of the key
in_under : (rows : List Row) (key : PlaceKey) (r : ℕ) (row : Row) → slice_get rows r ≡ Some row → is_under key row ≡ true → is_in r (rows_under rows key (length rows)) ≡ true
in_under rows key r row at under =
    let here : option_map_or (is_under key) (slice_get rows r) false ≡ true = rw at under in
    in_kept (λ q. option_map_or (is_under key) (slice_get rows q) false) (below (length rows)) r
    ∙ rw here (in_below (length rows) r (slice_get_within rows r row at))

abbrev locators : Sought → List Locator
locators s = locators_at s.tables.now.attrs s.place

abbrev found : Sought → List ℤ
found s = found_at s.machine.now s.spot

-- a row that suits hangs at the place and passes
record Suits (s : Sought) (r : ℕ) : Type 0 where
  row : Row
  at : slice_get s.tables.now.rows r ≡ Some row
  place : same_place row.place s.place ≡ true
  passes : submatch (locators s) row.locs (found s) ≡ true

three : (a b c : Bool) → (a && b && c) ≡ true → (a ≡ true) × (c ≡ true)
three true true c h = (refl, h)
three true false c h = absurd cc
three false b c h = absurd cc

suits_row : (s : Sought) (r : ℕ) → suits_at s r ≡ true → Suits s r
suits_row s r h = cases (slice_get s.tables.now.rows r) refl
  where
    cases : (o : Option Row) → slice_get s.tables.now.rows r ≡ o → Suits s r
    cases None e = let no : false ≡ true = rw e at h in absurd cc
    cases (Some row) e =
        let parts = three (same_place row.place s.place) (nat_lt 0 (match_value s.machine.now row.attach s.spot)) (submatch (locators s) row.locs (found s)) (rw e at h) in
        record { row = row; at = e; place = parts.0; passes = parts.1 }

-- it has the first value that is found, or the default
record Fits (first : FirstLocator) (values : List ℤ) : Type 0 where
  v : ℤ
  rest : List ℤ
  is : values ≡ v ∷ rest
  fits : fits_locator first.default v first.found ≡ true

and_first : (a b : Bool) → (a && b) ≡ true → a ≡ true
and_first true b h = refl
and_first false b h = absurd cc

fits_first : (locs : List Locator) (values at : List ℤ) (first : FirstLocator) → first_locator locs at ≡ Some first → submatch locs values at ≡ true → Fits first values
unfolding submatch
fits_first [] values at first e h = absurd cc
fits_first (l ∷ locs) values [] first e h = absurd cc
fits_first (l ∷ locs) [] (f ∷ at) first e h = absurd cc
fits_first (l ∷ locs) (v ∷ values) (f ∷ at) first e h =
    let is : record { default = l.default; found = f } ≡ first = same_Some (record { default = l.default; found = f }) first e in
    record { v = v; rest = values; is = refl; fits = subst (λ (g : FirstLocator). fits_locator g.default v g.found ≡ true) is (and_first (fits_locator l.default v f) (submatch locs values at) h) }

-- the rows at the place of what is sought, and of these the rows with a first value
abbrev pub under : Sought → Option ℤ → List ℕ
under s first = rows_under s.tables.now.rows (record { place = s.place; first = first }) (length s.tables.now.rows)

pub in_left : (r : ℕ) (xs ys : List ℕ) → is_in r xs ≡ true → is_in r (xs ++ ys) ≡ true
in_left r xs ys h = is_in-append r xs ys ∙ or_left (is_in r xs) (is_in r ys) h

pub in_right : (r : ℕ) (xs ys : List ℕ) → is_in r ys ≡ true → is_in r (xs ++ ys) ≡ true
in_right r xs ys h = is_in-append r xs ys ∙ or_right (is_in r xs) (is_in r ys) h

with_value : (s : Sought) (r : ℕ) (h : Suits s r) (v w : ℤ) (rest : List ℤ) → h.row.locs ≡ v ∷ rest → int_eq v w ≡ true → is_in r (under s (Some w)) ≡ true
with_value s r h v w rest is e =
    in_under s.tables.now.rows (record { place = s.place; first = Some w }) r h.row h.at (rw (h.place, is) e)

-- where there is no first locator, or nothing is found, all that suit are among those of the place
pub have_place : (s : Sought) → first_locator (locators s) (found s) ≡ None → HaveAll s (under s None ++ [])
have_place s none = λ r h.
    let it = suits_row s r h in
    in_left r (under s None) [] (in_under s.tables.now.rows (record { place = s.place; first = None }) r it.row it.at (rw it.place refl))

-- where no other value than the one that is found is a default, among those with that value
pub have_found : (s : Sought) (first : FirstLocator) → first_locator (locators s) (found s) ≡ Some first
    → ((d : ℤ) → first.default ≡ Some d → d ≡ first.found) → HaveAll s (under s (Some first.found) ++ [])
have_found s first e same = λ r h.
    let it = suits_row s r h in
    let has = fits_first (locators s) it.row.locs (found s) first e it.passes in
    in_left r (under s (Some first.found)) [] (with_value s r it has.v first.found has.rest has.is (by_default first.default refl has.v has.fits))
  where
    by_default : (o : Option ℤ) → first.default ≡ o → (v : ℤ) → fits_locator first.default v first.found ≡ true → int_eq v first.found ≡ true
    by_default None at v fits = rw at at fits
    by_default (Some d) at v fits = elim (or_cases (int_eq v d) (int_eq v first.found) (rw at at fits)) [
      | inl wild ↦ rw (same d at) at wild
      | inr there ↦ there
    ]

pub same_value : (v w : ℤ) → Some v ≡ Some w → v ≡ w
same_value v w e = cc

wild_or : (o : Option ℤ) (d v f : ℤ) → o ≡ Some d → fits_locator o v f ≡ true → (int_eq v d || int_eq v f) ≡ true
wild_or o d v f e h = rw e at h

-- else among those and those with the default
pub have_both : (s : Sought) (first : FirstLocator) (d : ℤ) → first_locator (locators s) (found s) ≡ Some first → first.default ≡ Some d
    → HaveAll s (under s (Some first.found) ++ under s (Some d))
have_both s first d e at = λ r h.
    let it = suits_row s r h in
    let has = fits_first (locators s) it.row.locs (found s) first e it.passes in
    elim (or_cases (int_eq has.v d) (int_eq has.v first.found) (wild_or first.default d has.v first.found at has.fits)) [
      | inl wild ↦ in_right r (under s (Some first.found)) (under s (Some d)) (with_value s r it has.v d has.rest has.is wild)
      | inr there ↦ in_left r (under s (Some first.found)) (under s (Some d)) (with_value s r it has.v first.found has.rest has.is there)
    ]

same_is : (a b : Place) → same_place a b ≡ true → a ≡ b
same_is Root Root h = refl
same_is (At a) (At b) h = ap At (eqb-true a b h)
same_is Root (At b) h = absurd cc
same_is (At a) Root h = absurd cc

-- in the list of a place are all that suit
pub have_listed : (s : Sought) (lists : PlaceLists) → AreListed s.tables.now.rows lists → HaveAll s (rows_in lists s.place ++ [])
have_listed s lists listed = λ r h.
    let it = suits_row s r h in
    let here : is_in r (rows_in lists s.place) ≡ true = subst (λ (p : Place). is_in r (rows_in lists p) ≡ true) (same_is it.row.place s.place it.place) (listed r it.row it.at) in
    in_left r (rows_in lists s.place) [] here
