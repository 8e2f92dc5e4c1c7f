-- The first open one of the rows that suit a spot, the best first, is the best of all rows.
use Rattle.std.proofs.Common.{◌≡◌, ℕ, Bool, true, false, ◌&&◌, List, [], length, find, Option, Some, None, slice_get, slice_index_or, refl, sym, ◌∙◌, ap, inl, inr, arith}
use Rattle.std.specs.Option.{option_map_or}
use Rattle.std.proofs.Math.Bool.{and-false}
use Rattle.cf_types.proofs.TestLemmas.{clash}
use Rattle.cf_types.specs.declared.machine.Machine.{Machine}
use Rattle.cf_types.specs.declared.tables.Place.{Place}
use Rattle.cf_types.specs.declared.tables.Row.{Row}
use Rattle.cf_types.specs.declared.tables.Tables.{Tables}
use Rattle.cf_types.specs.Gather.{is_in}
use Rattle.run_rules.specs.declared.world.ParentRef.{ParentRef}
use Rattle.run_rules.specs.Search.{names_parent, parent_offers}
use Rattle.run_rules.specs.Suits.{AreBestFirst, hangs_at, is_better, suits, worth}
use Rattle.run_rules.proofs.Below.{and_both}
use Rattle.run_rules.proofs.FirstPassing.{first_passes, none_passes}
use Rattle.run_rules.proofs.SpotLists.{listed}
use Rattle.run_rules.proofs.Suits.{below_earlier, none_takes, not_above, suits_within, taken_is as takes_is}
use Rattle.run_rules.proofs.Winner.{IsBest}
use Rattle.match_search.specs.Best.{best_row, may_take}
use Rattle.match_search.specs.Index.{IsIndexOf, is_open_to}
use Rattle.match_search.proofs.BestLaws.{row_is}

-- ---- which rows may take the spot

-- the liveness of a row, whatever else it has
abbrev marked : List Bool → ℕ → Row → Bool
marked live r row = slice_index_or live r false

open_is : (t : Tables) (live : List Bool) (p : ParentRef) (r : ℕ) → option_map_or (λ row. marked live r row && names_parent row.parent p) (slice_get t.rows r) false ≡ is_open_to t live p r
open_is t live p r = cases (slice_get t.rows r)
  where
    cases : (o : Option Row) → option_map_or (λ row. marked live r row && names_parent row.parent p) o false ≡ (slice_index_or live r false && option_map_or (λ row. names_parent row.parent p) o false)
    cases None = sym (and-false (slice_index_or live r false))
    cases (Some row) = refl

taken_is : (t : Tables) (m : Machine) (live : List Bool) (p : ParentRef) (place : Place) (x r : ℕ) → parent_offers t p place ≡ true
    → may_take t m live p place x r ≡ (is_open_to t live p r && suits t m place x r)
taken_is t m live p place x r offered = takes_is (marked live r) t m p place x r offered ∙ ap (λ b. b && suits t m place x r) (open_is t live p r)

-- ---- the first open one is the best

listed_best : (t : Tables) (m : Machine) (live : List Bool) (p : ParentRef) (place : Place) (x : ℕ) (rows : List ℕ) → parent_offers t p place ≡ true → AreBestFirst t m place x rows
    → IsBest (may_take t m live p place x) (λ q. worth t m q x) (length t.rows) (find (is_open_to t live p) rows)
listed_best t m live p place x rows offered h = cases (find (is_open_to t live p) rows) refl
  where
    -- a row that may take the spot is listed and open
    both : (q : ℕ) → may_take t m live p place x q ≡ true → (is_open_to t live p q ≡ true) × (is_in q rows ≡ true)
    both q may =
        let parts = and_both (is_open_to t live p q) (suits t m place x q) (sym (taken_is t m live p place x q offered) ∙ may) in
        (parts.0, h.each q ∙ parts.1)

    fails : (q : ℕ) (b : Bool) → may_take t m live p place x q ≡ b → (is_in q rows ≡ true → is_open_to t live p q ≡ false) → b ≡ false
    fails q false e shut = refl
    fails q true e shut = let parts = both q e in let shut_too : is_open_to t live p q ≡ false = shut parts.1 in clash (is_open_to t live p q) parts.0 shut_too

    cases : (o : Option ℕ) → find (is_open_to t live p) rows ≡ o → IsBest (may_take t m live p place x) (λ q. worth t m q x) (length t.rows) o
    cases None e = λ q lt. fails q (may_take t m live p place x q) refl (none_passes (is_open_to t live p) rows e q)
    cases (Some b) e =
        let first = first_passes (is_open_to t live p) (λ q r. is_better t m x r q ≡ false) rows b h.order e in
        let suited : suits t m place x b ≡ true = sym (h.each b) ∙ first.there in
        record {
          in_range = suits_within t m place x b suited;
          candidate = taken_is t m live p place x b offered ∙ rw (first.passes, suited) refl;
          no_greater = λ q lt may. let parts = both q may in elim (first.others q parts.1 parts.0) [
            | inl same ↦ rw same (omega arith)
            | inr after ↦ not_above (worth t m q x) (worth t m b x) q b after
          ];
          no_earlier = λ q lt may. let parts = both q may in elim (first.others q parts.1 parts.0) [
            | inl same ↦ absurd (omega arith)
            | inr after ↦ below_earlier (worth t m q x) (worth t m b x) q b after lt
          ];
        }

-- ---- of the index

pub listed_is : (t : Tables) (m : Machine) (live : List Bool) (p : ParentRef) (place : Place) (x : ℕ) (index : List (List ℕ)) → IsIndexOf t m index → hangs_at m x place ≡ true
    → parent_offers t p place ≡ true → find (is_open_to t live p) (slice_index_or index x []) ≡ best_row t m live p place x
listed_is t m live p place x index h at offered =
    row_is t m live p place x (find (is_open_to t live p) (slice_index_or index x []))
    (listed_best t m live p place x (slice_index_or index x []) offered (listed (AreBestFirst t m) m place x index h.rows at))

pub none_offered : (t : Tables) (m : Machine) (live : List Bool) (p : ParentRef) (place : Place) (x : ℕ) → parent_offers t p place ≡ false → None ≡ best_row t m live p place x
none_offered t m live p place x offered = row_is t m live p place x None (λ q lt. none_takes (marked live q) t m p place x q offered)

-- where none of them is open no row is the best, whether the parent offers the place or not
none_open_by : (t : Tables) (m : Machine) (live : List Bool) (p : ParentRef) (place : Place) (x : ℕ) (index : List (List ℕ)) (b : Bool) → parent_offers t p place ≡ b → IsIndexOf t m index → hangs_at m x place ≡ true
    → find (is_open_to t live p) (slice_index_or index x []) ≡ None → None ≡ best_row t m live p place x
none_open_by t m live p place x index true offered h at none = sym none ∙ listed_is t m live p place x index h at offered
none_open_by t m live p place x index false offered h at none = none_offered t m live p place x offered

pub none_open : (t : Tables) (m : Machine) (live : List Bool) (p : ParentRef) (place : Place) (x : ℕ) (index : List (List ℕ)) → IsIndexOf t m index → hangs_at m x place ≡ true
    → find (is_open_to t live p) (slice_index_or index x []) ≡ None → None ≡ best_row t m live p place x
none_open t m live p place x index = none_open_by t m live p place x index (parent_offers t p place) refl
