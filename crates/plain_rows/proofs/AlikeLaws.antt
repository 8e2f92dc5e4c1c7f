-- A list without rows that are alike to the one before; and what is found in rows the best first.
use Rattle.std.proofs.Common.{◌≡◌, ℕ, zero, suc, ◌+◌, ◌-◌, ◌<◌, ◌≤◌, Bool, true, false, ◌&&◌, ◌||◌, ◌==◌, nat_lt, cond, List, [], ◌∷◌, ◌++◌, length, map, take, find, Option, Some, None, slice_index_or, refl, sym, ◌∙◌, ap, subst, inl, inr, eq-eqb, arith}
use Rattle.std.specs.Global.{Global}
use Rattle.std.specs.Option.{option_or}
use Rattle.std.specs.Prelude.{IfOk, Result, Ok, Err, Vec}
use Rattle.std.proofs.lemmas.Bool.{or_right}
use Rattle.std.proofs.lemmas.Bool.Decides.{nat_tests}
use Rattle.std.proofs.lemmas.List.{map-append, take_more}
use Rattle.std.proofs.lemmas.List.Folds.{find-append}
use Rattle.cf_types.specs.declared.machine.Machine.{Machine}
use Rattle.cf_types.specs.declared.tables.Place.{Place}
use Rattle.cf_types.specs.declared.tables.Tables.{Tables}
use Rattle.cf_types.specs.Gather.{is_in}
use Rattle.run_rules.specs.Suits.{AreBestFirst, is_better, worth}
use Rattle.run_rules.proofs.FirstPassing.{IsFirst, first_passes, none_passes}
use Rattle.plain_rows.specs.Suited.{FindsAlike, FindsBest, TellsAlike, key_of}
use Rattle.plain_rows.specs.declared.suited.Candidate.{Candidate}

-- ---- what is found in rows the best first

not_itself : (w b : ℕ) → (nat_lt w w || (w == w && nat_lt b b)) ≡ false
not_itself w b = grind (arith, nat_tests)

pub finds_best : (t : Tables) (m : Machine) (place : Place) (x : ℕ) (all rows : List ℕ) → AreBestFirst t m place x all → FindsAlike t all rows → FindsBest t m place x rows
finds_best t m place x all rows h alike = record {
  none = λ p tells e r suited. none_passes p all (sym (alike p tells) ∙ e) r (h.each r ∙ suited);
  suited = λ p tells b e. sym (h.each b) ∙ (found p tells b e).there;
  passes = λ p tells b e. (found p tells b e).passes;
  best = λ p tells b e r suited pass. elim ((found p tells b e).others r (h.each r ∙ suited) pass) [
    | inl same ↦ rw same (not_itself (worth t m b x) b)
    | inr after ↦ after
  ];
}
  where
    found : (p : ℕ → Bool) → TellsAlike t p → (b : ℕ) → find p rows ≡ Some b → IsFirst p (λ q r. is_better t m x r q ≡ false) all b
    found p tells b e =
        first_passes p (λ q r. is_better t m x r q ≡ false) all b h.order (sym (alike p tells) ∙ e)

-- ---- without those that are alike to the one before

pub none_alike : (t : Tables) → FindsAlike t [] []
none_alike t p tells = refl

alike_more : (t : Tables) (all rows : List ℕ) (r : ℕ) → FindsAlike t all rows → FindsAlike t (all ++ r ∷ []) (rows ++ r ∷ [])
alike_more t all rows r h p tells = find-append p rows (r ∷ []) ∙ ap (λ (o : Option ℕ). option_or o (find p (r ∷ []))) (h p tells) ∙ sym (find-append p all (r ∷ []))

alike_same : (t : Tables) (all rows : List ℕ) (q r : ℕ) → FindsAlike t all rows → is_in q all ≡ true → key_of t q ≡ key_of t r → FindsAlike t (all ++ r ∷ []) rows
alike_same t all rows q r h there same p tells = h p tells ∙ cases (find p all) refl ∙ sym (find-append p all (r ∷ []))
  where
    cases : (o : Option ℕ) → find p all ≡ o → o ≡ option_or o (find p (r ∷ []))
    cases (Some b) e = refl
    cases None e =
        let shut : p r ≡ false = sym (tells q r same) ∙ none_passes p all e q there in
        sym (ap (λ (b : Bool). cond b (Some r) None) shut)

abbrev rows_in : List Candidate → List ℕ
rows_in list = map (λ c. c.row) list

rows_more : (list : List Candidate) (i : ℕ) (d : Candidate) → i < length list → rows_in (take (i + 1) list) ≡ rows_in (take i list) ++ (slice_index_or list i d).row ∷ []
rows_more list i d lt = ap rows_in (take_more list i d lt) ∙ map-append (λ (c : Candidate). c.row) (take i list) (slice_index_or list i d ∷ [])

earlier_in : (list : List Candidate) (i n : ℕ) (d : Candidate) → i < n → n ≤ length list → is_in (slice_index_or list i d).row (rows_in (take n list)) ≡ true
earlier_in [] i n d lt le = absurd (omega arith)
earlier_in (c ∷ cs) i zero d lt le = absurd (omega arith)
earlier_in (c ∷ cs) zero (suc n) d lt le = ap (λ b. b || is_in c.row (rows_in (take n cs))) (eq-eqb c.row c.row refl)
earlier_in (c ∷ cs) (suc i) (suc n) d lt le = or_right (c.row == (slice_index_or cs i d).row) (is_in (slice_index_or cs i d).row (rows_in (take n cs))) (earlier_in cs i n d (omega arith) (omega arith))

pub one_kept : (t : Tables) (list : List Candidate) (i : ℕ) (d : Candidate) (rows more : List ℕ) → i < length list → more ≡ rows ++ (slice_index_or list i d).row ∷ []
    → FindsAlike t (rows_in (take i list)) rows → FindsAlike t (rows_in (take (i + 1) list)) more
one_kept t list i d rows more lt e h =
    subst (λ all. FindsAlike t all more) (sym (rows_more list i d lt))
    (subst (FindsAlike t (rows_in (take i list) ++ (slice_index_or list i d).row ∷ [])) (sym e) (alike_more t (rows_in (take i list)) rows (slice_index_or list i d).row h))

pub one_left : (t : Tables) (list : List Candidate) (i : ℕ) (d : Candidate) (rows : List ℕ) → i < length list → 0 < i
    → key_of t (slice_index_or list (i - 1) d).row ≡ key_of t (slice_index_or list i d).row
    → FindsAlike t (rows_in (take i list)) rows → FindsAlike t (rows_in (take (i + 1) list)) rows
one_left t list i d rows lt some same h =
    subst (λ all. FindsAlike t all rows) (sym (rows_more list i d lt))
    (alike_same t (rows_in (take i list)) rows (slice_index_or list (i - 1) d).row (slice_index_or list i d).row h (earlier_in list (i - 1) i d (omega arith) (omega arith)) same)

pub all_of : {E : Type 0} (t : Tables) (m : Machine) (place : Place) (x : ℕ) (all : List ℕ) (r : Result (Vec ℕ Global) E) → AreBestFirst t m place x all → IfOk r (λ rows. FindsAlike t all rows.items)
    → IfOk r (λ rows. FindsBest t m place x rows.items)
all_of t m place x all (Ok rows) h alike = finds_best t m place x all rows.items h alike
all_of t m place x all (Err e) h alike = tt
