-- The first rows of each kind, row by row; and the tests that rows of a kind pass alike.
use Rattle.std.proofs.Common.{◌≡◌, ◌<◌, ℕ, zero, suc, Bool, true, false, not, ◌&&◌, ◌||◌, cond, List, [], ◌∷◌, ◌++◌, length, find, Option, Some, None, option_map, slice_get, slice_index_or, refl, sym, ◌∙◌, ap, subst, inl, inr}
use Rattle.std.specs.Option.{option_map_or}
use Rattle.std.proofs.lemmas.Option.{slice_get-map}
use Rattle.cf_types.specs.declared.tables.Row.{Row}
use Rattle.cf_types.specs.declared.tables.Tables.{Tables}
use Rattle.run_rules.specs.declared.world.Dev.{Dev}
use Rattle.run_rules.specs.declared.world.ParentRef.{ParentRef}
use Rattle.run_rules.specs.declared.world.Setup.{Setup}
use Rattle.run_rules.specs.Search.{is_live_row, is_taken, names_parent}
use Rattle.match_search.specs.Best.{live_rows}
use Rattle.match_search.specs.Index.{is_open_to}
use Rattle.match_search.specs.Leaders.{AreKinds, AreLeaders, IsEven, Naming, NotesToo, naming, naming_at}

-- ---- a row more

-- of the rows that were noted none passes where none of the list does
abbrev pub AreNoted : List Row → List ℕ → List Bool → List ℕ → Type 0
AreNoted rows kinds seen list = (p : ℕ → Bool) → IsEven rows p → find p list ≡ None → (r : ℕ) → r < length rows → slice_index_or seen (slice_index_or kinds r 0) false ≡ true → p r ≡ false

find_more : (p : ℕ → Bool) (xs : List ℕ) (r : ℕ) (o : Option ℕ) → find p xs ≡ o → find p (xs ++ r ∷ []) ≡ option_map_or (λ x. Some x) o (cond (p r) (Some r) None)
find_more p [] r o e = ap (λ (q : Option ℕ). option_map_or (λ x. Some x) q (cond (p r) (Some r) None)) e
find_more p (x ∷ xs) r o e = cases (λ k. find_more p xs r o k) (p x) e
  where
    cases : (find p xs ≡ o → find p (xs ++ r ∷ []) ≡ option_map_or (λ x. Some x) o (cond (p r) (Some r) None)) → (b : Bool) → cond b (Some x) (find p xs) ≡ o
        → cond b (Some x) (find p (xs ++ r ∷ [])) ≡ option_map_or (λ x. Some x) o (cond (p r) (Some r) None)
    cases rest true k = ap (λ (q : Option ℕ). option_map_or (λ x. Some x) q (cond (p r) (Some r) None)) k
    cases rest false k = rest k

pub skipped : (rows : List Row) (kinds : List ℕ) (seen : List Bool) (all list : List ℕ) (r : ℕ) → AreKinds rows kinds → AreLeaders rows all list → AreNoted rows kinds seen list
    → r < length kinds → slice_index_or seen (slice_index_or kinds r 0) false ≡ true → AreLeaders rows (all ++ r ∷ []) list
skipped rows kinds seen all list r are leads noted lt is = λ p even. by p even (find p list) refl
  where
    by : (p : ℕ → Bool) → IsEven rows p → (o : Option ℕ) → find p list ≡ o → find p list ≡ find p (all ++ r ∷ [])
    by p even None e = let no : p r ≡ false = noted p even e r (subst (λ n. r < n) are.count lt) is in
        e ∙ sym (find_more p all r None (sym (leads p even) ∙ e) ∙ ap (λ b. cond b (Some r) None) no)
    by p even (Some x) e = e ∙ sym (find_more p all r (Some x) (sym (leads p even) ∙ e))

pub pushed : (rows : List Row) (all list : List ℕ) (r : ℕ) → AreLeaders rows all list → AreLeaders rows (all ++ r ∷ []) (list ++ r ∷ [])
pushed rows all list r leads = λ p even.
    find_more p list r (find p all) (leads p even) ∙ sym (find_more p all r (find p all) refl)

-- a row that is not taken was noted already
pub noted_still : (rows : List Row) (kinds : List ℕ) (old new : List Bool) (list : List ℕ) (row : ℕ) → AreNoted rows kinds old list → NotesToo kinds old new row
    → slice_index_or old (slice_index_or kinds row 0) false ≡ true → AreNoted rows kinds new list
noted_still rows kinds old new list row noted too was = λ p even none r lt is. elim (too (slice_index_or kinds r 0) is) [
  | inl before ↦ noted p even none r lt before
  | inr now ↦ noted p even none r lt (subst (λ k. slice_index_or old k false ≡ true) now.1 was)
]

-- one that is taken is noted from now on
pub noted_too : (rows : List Row) (kinds : List ℕ) (old new : List Bool) (list : List ℕ) (row : ℕ) → AreKinds rows kinds → AreNoted rows kinds old list → NotesToo kinds old new row
    → AreNoted rows kinds new (list ++ row ∷ [])
noted_too rows kinds old new list row are noted too = λ p even none r lt is.
    let both = none_of p (find p list) refl none in
    elim (too (slice_index_or kinds r 0) is) [
      | inl before ↦ noted p even both.0 r lt before
      | inr now ↦
          even r row (sym (are.same r lt) ∙ ap (naming_at rows) (sym now.1) ∙ are.same row (subst (λ n. row < n) are.count now.0)) ∙ both.1
    ]
  where
    none_of : (p : ℕ → Bool) (o : Option ℕ) → find p list ≡ o → find p (list ++ row ∷ []) ≡ None → (find p list ≡ None) × (p row ≡ false)
    none_of p (Some x) e none = let no : Some x ≡ None = sym (find_more p list row (Some x) e) ∙ none in absurd cc
    none_of p None e none = (e, last (p row) (sym (find_more p list row None e) ∙ none))
      where
        last : (b : Bool) → cond b (Some row) None ≡ None → b ≡ false
        last true k = absurd cc
        last false k = refl

-- nothing is noted yet
pub none_noted : (rows : List Row) (kinds : List ℕ) (seen : List Bool) (list : List ℕ) → ((k : ℕ) → slice_index_or seen k false ≡ false) → AreNoted rows kinds seen list
none_noted rows kinds seen list none = λ p even no r lt is. let clash : true ≡ false = sym is ∙ none (slice_index_or kinds r 0) in absurd cc

-- ---- a row is open where its naming is

index_is : {A : Type 0} (xs : List A) (i : ℕ) (d : A) → slice_index_or xs i d ≡ option_map_or (λ x. x) (slice_get xs i) d
index_is [] i d = refl
index_is (x ∷ xs) zero d = refl
index_is (x ∷ xs) (suc i) d = index_is xs i d

abbrev open_by : Setup → List Dev → ParentRef → Option Naming → Bool
open_by s devices p o = option_map_or (λ n. (n.star || not (is_taken s devices n.device n.unit)) && names_parent n.parent p) o false

pub open_even : (t : Tables) (s : Setup) (devices : List Dev) (p : ParentRef) (live : List Bool) → s.tables ≡ t → live ≡ live_rows s devices → IsEven t.rows (is_open_to t live p)
open_even t s devices p live tables marks = λ q r same. of q ∙ ap (open_by s devices p) same ∙ sym (of r)
  where
    by_row : (o : Option Row) → (option_map_or (λ x. x) (option_map (is_live_row s devices) o) false && option_map_or (λ row. names_parent row.parent p) o false) ≡ open_by s devices p (option_map naming o)
    by_row None = refl
    by_row (Some row) = refl

    mark : (r : ℕ) → slice_index_or live r false ≡ option_map_or (λ x. x) (option_map (is_live_row s devices) (slice_get t.rows r)) false
    mark r =
        ap (λ (bs : List Bool). slice_index_or bs r false) marks ∙ index_is (live_rows s devices) r false
        ∙ ap (λ (o : Option Bool). option_map_or (λ x. x) o false) (slice_get-map (is_live_row s devices) s.tables.rows r)
        ∙ ap (λ (u : Tables). option_map_or (λ x. x) (option_map (is_live_row s devices) (slice_get u.rows r)) false) tables

    of : (r : ℕ) → is_open_to t live p r ≡ open_by s devices p (naming_at t.rows r)
    of r = ap (λ b. b && option_map_or (λ row. names_parent row.parent p) (slice_get t.rows r) false) (mark r) ∙ by_row (slice_get t.rows r)
