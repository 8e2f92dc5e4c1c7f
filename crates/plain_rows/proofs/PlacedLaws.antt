-- The rows at a place: one row more, and that all that suit a spot are among them.
use Rattle.std.proofs.Common.{◌≡◌, ℕ, ◌+◌, ◌<◌, Bool, true, false, ◌&&◌, nat_lt, List, [], ◌∷◌, ◌++◌, length, filter, Option, Some, None, get_or, slice_get, cond, ◌∙◌, ap, add-one, refl}
use Rattle.std.specs.Option.{option_map_or}
use Rattle.std.proofs.lemmas.List.Elements.{filter-append}
use Rattle.std.proofs.lemmas.Option.{slice_get_read, slice_get_within}
use Rattle.cf_types.specs.declared.machine.Machine.{Machine}
use Rattle.cf_types.specs.declared.tables.Place.{Place}
use Rattle.cf_types.specs.declared.tables.Row.{Row}
use Rattle.cf_types.specs.declared.tables.Tables.{Tables}
use Rattle.cf_types.specs.Gather.{is_in}
use Rattle.cf_types.specs.Locators.{locators_at, submatch}
use Rattle.cf_types.specs.Numbers.{below}
use Rattle.run_rules.specs.Search.{found_at, match_value}
use Rattle.run_rules.specs.Suits.{suits}
use Rattle.run_rules.specs.World.{same_place}
use Rattle.run_rules.proofs.BestFirst.{in_below}
use Rattle.run_rules.proofs.FirstPassing.{in_kept}
use Rattle.plain_rows.specs.Placed.{is_at}

-- the rows at a place among one row more
pub at_more : (rows : List Row) (place : Place) (i : ℕ) (row : Row) → i < length rows → row ≡ get_or rows i row
    → filter (is_at rows place) (below (i + 1)) ≡ filter (is_at rows place) (below i) ++ cond (same_place row.place place) (i ∷ []) []
at_more rows place i row lt at =
    rw add-one (filter-append (is_at rows place) (below i) (i ∷ []))
    ∙ ap (λ (o : Option Row). filter (is_at rows place) (below i) ++ cond (option_map_or (λ r. same_place r.place place) o false) (i ∷ []) []) (slice_get_read rows (length rows) i row refl lt at)

first_of : (a b : Bool) → (a && b) ≡ true → a ≡ true
first_of true b h = refl
first_of false b h = absurd cc

-- each row that suits a spot at a place is among the rows there
pub suits_there : (t : Tables) (m : Machine) (place : Place) (x r : ℕ) → suits t m place x r ≡ true → is_in r (filter (is_at t.rows place) (below (length t.rows))) ≡ true
suits_there t m place x r h = cases (slice_get t.rows r) refl
  where
    cases : (o : Option Row) → slice_get t.rows r ≡ o → is_in r (filter (is_at t.rows place) (below (length t.rows))) ≡ true
    cases None e = let no : false ≡ true = rw e at h in absurd cc
    cases (Some row) e =
        let there : same_place row.place place ≡ true =
        first_of (same_place row.place place) (nat_lt 0 (match_value m row.attach x)) (first_of (same_place row.place place && nat_lt 0 (match_value m row.attach x)) (submatch (locators_at t.attrs place) row.locs (found_at m x)) (rw e at h)) in
        let here : is_at t.rows place r ≡ true = rw e there in
        in_kept (is_at t.rows place) (below (length t.rows)) r ∙ rw here (in_below (length t.rows) r (slice_get_within t.rows r row e))
