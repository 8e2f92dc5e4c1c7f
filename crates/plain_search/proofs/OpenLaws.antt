-- The first open one of the rows that suit a spot, the best first, is the winner.
use Rattle.std.proofs.Common.{◌≡◌, ℕ, ◌+◌, Bool, true, false, not, ◌&&◌, ◌||◌, ◌==◌, nat_lt, cond, List, [], ◌∷◌, length, find, Option, Some, None, slice_get, slice_index_or, refl, sym, ◌∙◌, ap, arith}
use Rattle.std.specs.List.{count_by, list_any}
use Rattle.std.specs.Option.{option_map_or}
use Rattle.std.specs.Prelude.{option_map}
use Rattle.cf_types.proofs.TestLemmas.{clash}
use Rattle.std.proofs.lemmas.Bool.Decides.{nat_tests}
use Rattle.std.proofs.lemmas.List.Sums.{sum_by-append}
use Rattle.cf_types.specs.declared.tables.ParentSpec.{ParentSpec}
use Rattle.cf_types.specs.declared.tables.Place.{Place}
use Rattle.cf_types.specs.declared.tables.Row.{Row}
use Rattle.run_rules.specs.declared.world.Dev.{Dev}
use Rattle.run_rules.specs.declared.world.ParentRef.{ParentRef}
use Rattle.run_rules.specs.declared.world.Setup.{Setup}
use Rattle.run_rules.specs.Search.{is_candidate, is_live_row, is_taken, names_parent, parent_offers, value_of, winner}
use Rattle.run_rules.specs.World.{driver_of}
use Rattle.run_rules.proofs.Below.{and_both}
use Rattle.run_rules.proofs.SpotLists.{listed}
use Rattle.run_rules.proofs.Suits.{below_earlier, none_takes, not_above, suits_within, taken_is}
use Rattle.run_rules.proofs.Turns.{find_same}
use Rattle.run_rules.proofs.Winner.{IsBest, winner_is}
use Rattle.run_rules.specs.Suits.{hangs_at, suits}
use Rattle.plain_rows.specs.Suited.{AreSuited, FindsBest, TellsAlike, key_of}
use Rattle.plain_rows.specs.Taken.{AreTakers, one_if, takers}
use Rattle.plain_search.specs.Open.{is_open_to, open_by}

-- ---- which rows are candidates

candidate_is : (s : Setup) (live : List Dev) (p : ParentRef) (place : Place) (x r : ℕ) → parent_offers s.tables p place ≡ true
    → is_candidate s live p place x r ≡ (is_open_to s live p r && suits s.tables s.machine place x r)
unfolding is_candidate
candidate_is s live p place x r offered = taken_is (is_live_row s live) s.tables s.machine p place x r offered

none_is : (s : Setup) (live : List Dev) (p : ParentRef) (place : Place) (x r : ℕ) → parent_offers s.tables p place ≡ false → is_candidate s live p place x r ≡ false
unfolding is_candidate
none_is s live p place x r offered = none_takes (is_live_row s live) s.tables s.machine p place x r offered

-- whether a row is open depends on its driver, its unit, its star and its parent alone
abbrev open_of : Setup → List Dev → ParentRef → Option (ℕ × ℕ × Bool × Option ParentSpec) → Bool
open_of s live p o = option_map_or (λ k. (k.2 || not (is_taken s live k.0 k.1)) && names_parent k.3 p) o false

open_by_key : (s : Setup) (live : List Dev) (p : ParentRef) (i : ℕ) → is_open_to s live p i ≡ open_of s live p (key_of s.tables i)
open_by_key s live p i = cases (slice_get s.tables.rows i)
  where
    cases : (o : Option Row) → option_map_or (λ row. is_live_row s live row && names_parent row.parent p) o false ≡ open_of s live p (option_map (λ row. (row.device, row.unit, row.star, row.parent)) o)
    cases None = refl
    cases (Some row) = refl

open_alike : (s : Setup) (live : List Dev) (p : ParentRef) → TellsAlike s.tables (is_open_to s live p)
open_alike s live p q r same = open_by_key s live p q ∙ ap (open_of s live p) same ∙ sym (open_by_key s live p r)

-- ---- the first open one is the best

listed_best : (s : Setup) (live : List Dev) (p : ParentRef) (place : Place) (x : ℕ) (rows : List ℕ) → parent_offers s.tables p place ≡ true → FindsBest s.tables s.machine place x rows
    → IsBest (is_candidate s live p place x) (λ q. value_of s q x) (length s.tables.rows) (find (is_open_to s live p) rows)
listed_best s live p place x rows offered h = cases (find (is_open_to s live p) rows) refl
  where
    tells : TellsAlike s.tables (is_open_to s live p)
    tells = open_alike s live p

    -- a candidate is open and suits
    both : (q : ℕ) → is_candidate s live p place x q ≡ true → (is_open_to s live p q ≡ true) × (suits s.tables s.machine place x q ≡ true)
    both q may = and_both (is_open_to s live p q) (suits s.tables s.machine place x q) (sym (candidate_is s live p place x q offered) ∙ may)

    fails : (q : ℕ) (b : Bool) → is_candidate s live p place x q ≡ b → (suits s.tables s.machine place x q ≡ true → is_open_to s live p q ≡ false) → b ≡ false
    fails q false e shut = refl
    fails q true e shut = let parts = both q e in clash (is_open_to s live p q) parts.0 (shut parts.1)

    cases : (o : Option ℕ) → find (is_open_to s live p) rows ≡ o → IsBest (is_candidate s live p place x) (λ q. value_of s q x) (length s.tables.rows) o
    cases None e = λ q lt. fails q (is_candidate s live p place x q) refl (h.none (is_open_to s live p) tells e q)
    cases (Some b) e =
        let suited = h.suited (is_open_to s live p) tells b e in
        let passes = h.passes (is_open_to s live p) tells b e in
        record {
          in_range = suits_within s.tables s.machine place x b suited;
          candidate = candidate_is s live p place x b offered ∙ rw (passes, suited) refl;
          no_greater = λ q lt may. let parts = both q may in not_above (value_of s q x) (value_of s b x) q b (h.best (is_open_to s live p) tells b e q parts.1 parts.0);
          no_earlier = λ q lt may. let parts = both q may in below_earlier (value_of s q x) (value_of s b x) q b (h.best (is_open_to s live p) tells b e q parts.1 parts.0) lt;
        }

-- ---- by how many devices have the driver and the unit of a row

counted_any : (p : Dev → Bool) (ds : List Dev) → nat_lt 0 (count_by p ds) ≡ list_any p ds
counted_any p [] = refl
counted_any p (d ∷ ds) = ap (nat_lt 0) first ∙ cases (p d) (count_by p ds) (list_any p ds) (counted_any p ds)
  where
    first : count_by p (d ∷ ds) ≡ one_if (p d) + count_by p ds
    first = omega (arith, sum_by-append (λ (e : Dev). cond (p e) 1 0) (d ∷ []) ds)

    cases : (b : Bool) (n : ℕ) (c : Bool) → nat_lt 0 n ≡ c → nat_lt 0 (one_if b + n) ≡ (b || c)
    cases true n c more = grind (arith, nat_tests)
    cases false n c more = let z : 0 + n ≡ n = omega arith in ap (nat_lt 0) z ∙ more

pub taken_by : (s : Setup) (live : List Dev) (r : ℕ) (row : Row) → slice_get s.tables.rows r ≡ Some row → nat_lt 0 (takers s live r) ≡ is_taken s live row.device row.unit
taken_by s live r row at =
    ap (λ (o : Option Row). nat_lt 0 (count_by (λ d. option_map_or (λ row. driver_of s d.row == row.device && d.unit == row.unit) o false) live)) at
    ∙ counted_any (λ d. driver_of s d.row == row.device && d.unit == row.unit) live

open_same : (s : Setup) (live : List Dev) (counts : List ℕ) (p : ParentRef) → AreTakers s live counts → (r : ℕ) → open_by s counts p r ≡ is_open_to s live p r
open_same s live counts p follows r = cases (slice_get s.tables.rows r) refl
  where
    cases : (o : Option Row) → slice_get s.tables.rows r ≡ o
        → option_map_or (λ row. (row.star || not (nat_lt 0 (slice_index_or counts r 0))) && names_parent row.parent p) o false ≡ option_map_or (λ row. is_live_row s live row && names_parent row.parent p) o false
    cases None e = refl
    cases (Some row) e =
        ap (λ (b : Bool). (row.star || not b) && names_parent row.parent p) (ap (nat_lt 0) (follows r) ∙ taken_by s live r row e)

-- the first open one wins
pub open_wins : (s : Setup) (live : List Dev) (counts : List ℕ) (p : ParentRef) (place : Place) (x : ℕ) (lists : List (List ℕ)) → AreSuited s.tables s.machine lists → AreTakers s live counts
    → hangs_at s.machine x place ≡ true → parent_offers s.tables p place ≡ true → winner s live p place x ≡ find (open_by s counts p) (slice_index_or lists x [])
open_wins s live counts p place x lists suited follows at offered =
    winner_is s live p place x (find (is_open_to s live p) (slice_index_or lists x [])) (listed_best s live p place x (slice_index_or lists x []) offered (listed (FindsBest s.tables s.machine) s.machine place x lists suited.rows at))
    ∙ find_same (is_open_to s live p) (open_by s counts p) (slice_index_or lists x []) (λ r. sym (open_same s live counts p follows r))

-- where the parent does not offer the place none wins
pub none_wins : (s : Setup) (live : List Dev) (p : ParentRef) (place : Place) (x : ℕ) → parent_offers s.tables p place ≡ false → winner s live p place x ≡ None
none_wins s live p place x offered = winner_is s live p place x None (λ q lt. none_is s live p place x q offered)
