-- Rows with their match values, sorted so that the better one comes first.
use Rattle.std.proofs.Common.{◌≡◌, ℕ, zero, suc, ◌<◌, Bool, true, false, not, ◌&&◌, ◌||◌, ◌==◌, nat_lt, List, [], ◌∷◌, length, map, filter, get_or, refl, sym, ◌∙◌, ap, inl, inr, add-one, eq-eqb, arith, Less, Equal, Ordering}
use Rattle.std.specs.List.{AllByRecursion, list_any}
use Rattle.std.specs.List.Sorted.{IsPermutation, IsSorted}
use Rattle.std.specs.Ordering.{is_lt, nat_cmp, ordering_then}
use Rattle.std.proofs.lemmas.Bool.{cases_lt, eqb-true, or_left, or_right}
use Rattle.std.proofs.lemmas.Bool.Decides.{nat_tests}
use Rattle.std.proofs.lemmas.Cmp.{by_ranked, ranked}
use Rattle.std.proofs.lemmas.List.Sorted.{list_any-IsPermutation}
use Rattle.cf_types.proofs.OfferLemmas.{is_in-append}
use Rattle.cf_types.specs.declared.machine.Machine.{Machine}
use Rattle.cf_types.specs.declared.tables.Place.{Place}
use Rattle.cf_types.specs.declared.tables.Tables.{Tables}
use Rattle.cf_types.specs.Gather.{is_in}
use Rattle.cf_types.specs.Numbers.{below}
use Rattle.run_rules.specs.Sound.{EachLater}
use Rattle.run_rules.specs.Suits.{AreBestFirst, is_better, suits, worth}
use Rattle.run_rules.proofs.FirstPassing.{all_kept}

-- a number below n is among those below n
pub in_below : (n r : ℕ) → r < n → is_in r (below n) ≡ true
in_below zero r lt = absurd (omega arith)
in_below (suc n) r lt = is_in-append r (below n) (n ∷ []) ∙ elim (cases_lt r n) [
  | inl less ↦ or_left (is_in r (below n)) ((n == r) || false) (in_below n r less)
  | inr past ↦
      let same : n ≡ r = omega arith in
      or_right (is_in r (below n)) ((n == r) || false) (or_left (n == r) false (eq-eqb n r same))
]

-- ---- the best first: of rows with a value v and a number r

-- the order by which they are sorted
abbrev pub by_value : {C : Type 0} → (C → ℕ) → (C → ℕ) → C → C → Ordering
by_value v r c d = ordering_then (nat_cmp (v d) (v c)) (nat_cmp (r c) (r d))

-- the first is not worse than the second
abbrev Precedes : {C : Type 0} → (C → ℕ) → (C → ℕ) → C → C → Type 0
Precedes v r c d = (nat_lt (v c) (v d) || (v d == v c && nat_lt (r d) (r c))) ≡ false

-- by the order of the two
not_less : (a b c d : ℕ) → is_lt (ordering_then (nat_cmp a b) (nat_cmp c d)) ≡ false → (nat_lt a b || (b == a && nat_lt c d)) ≡ false
not_less a b c d h = by_ranked (a < b) (a ≡ b) (b < a) (nat_cmp a b) (ranked a b (nat_cmp a b) refl)
    (λ o lt. absurd (less o))
    (λ o e. equal o e)
    (λ o gt. grind (arith, nat_tests))
  where
    less : nat_cmp a b ≡ Less → ⊥
    less o = let k : is_lt (ordering_then Less (nat_cmp c d)) ≡ false = rw o at h in absurd cc

    equal : nat_cmp a b ≡ Equal → a ≡ b → (nat_lt a b || (b == a && nat_lt c d)) ≡ false
    equal o e =
        let k : is_lt (nat_cmp c d) ≡ false = rw o at h in
        by_ranked (c < d) (c ≡ d) (d < c) (nat_cmp c d) (ranked c d (nat_cmp c d) refl)
        (λ p lt. let j : true ≡ false = rw p at k in absurd cc)
        (λ p e'. grind (arith, nat_tests))
        (λ p gt. grind (arith, nat_tests))

precedes_on : (a b c i j k : ℕ) → (nat_lt a b || (b == a && nat_lt j i)) ≡ false → (nat_lt b c || (c == b && nat_lt k j)) ≡ false → (nat_lt a c || (c == a && nat_lt k i)) ≡ false
precedes_on a b c i j k h g = grind (arith, nat_tests)

all_later : {C : Type 0} (v r : C → ℕ) (y z : C) (ys : List C) → Precedes v r y z → AllByRecursion (Precedes v r z) ys → AllByRecursion (Precedes v r y) ys
all_later v r y z [] h all = tt
all_later v r y z (u ∷ us) h all = (precedes_on (v y) (v z) (v u) (r y) (r z) (r u) h all.0, all_later v r y z us h all.1)

later_all : {C : Type 0} (v r : C → ℕ) (ys : List C) → ((k : ℕ) (d : C) → suc k < length ys → is_lt (by_value v r (get_or ys (suc k) d) (get_or ys k d)) ≡ false) → EachLater (Precedes v r) ys
later_all v r [] h = tt
later_all v r (y ∷ []) h = (tt, tt)
later_all v r (y ∷ z ∷ zs) h =
    let rest : EachLater (Precedes v r) (z ∷ zs) = later_all v r (z ∷ zs) (λ k d lt. h (suc k) d (omega arith)) in
    let here : Precedes v r y z = not_less (v y) (v z) (r z) (r y) (h 0 y (omega arith)) in
    ((here, all_later v r y z zs here rest.0), rest)

-- ---- what the sorted rows are

-- the value is not that of the row
abbrev is_off : {C : Type 0} → (C → ℕ) → (C → ℕ) → Tables → Machine → ℕ → C → Bool
is_off v r t m x c = not (v c == worth t m (r c) x)

abbrev NotBetter : Tables → Machine → ℕ → ℕ → ℕ → Type 0
NotBetter t m x q r = is_better t m x r q ≡ false

off_parts : (a b : Bool) → (not a || b) ≡ false → (a ≡ true) × (b ≡ false)
off_parts true b h = (refl, h)
off_parts false b h = absurd cc

one_row : {C : Type 0} (v r : C → ℕ) (t : Tables) (m : Machine) (x : ℕ) (c d : C) → v c ≡ worth t m (r c) x → v d ≡ worth t m (r d) x → Precedes v r c d → NotBetter t m x (r c) (r d)
one_row v r t m x c d e f h = rw (e, f) at h

rows_after : {C : Type 0} (v r : C → ℕ) (t : Tables) (m : Machine) (x : ℕ) (c : C) (ds : List C) → v c ≡ worth t m (r c) x → list_any (is_off v r t m x) ds ≡ false
    → AllByRecursion (Precedes v r c) ds → AllByRecursion (NotBetter t m x (r c)) (map r ds)
rows_after v r t m x c [] e on all = tt
rows_after v r t m x c (d ∷ ds) e on all =
    let parts = off_parts (v d == worth t m (r d) x) (list_any (is_off v r t m x) ds) on in
    (one_row v r t m x c d e (eqb-true (v d) (worth t m (r d) x) parts.0) all.0, rows_after v r t m x c ds e parts.1 all.1)

rows_ordered : {C : Type 0} (v r : C → ℕ) (t : Tables) (m : Machine) (x : ℕ) (cs : List C) → list_any (is_off v r t m x) cs ≡ false → EachLater (Precedes v r) cs → EachLater (NotBetter t m x) (map r cs)
rows_ordered v r t m x [] on h = tt
rows_ordered v r t m x (c ∷ cs) on h =
    let parts = off_parts (v c == worth t m (r c) x) (list_any (is_off v r t m x) cs) on in
    (rows_after v r t m x c cs (eqb-true (v c) (worth t m (r c) x) parts.0) parts.1 h.0, rows_ordered v r t m x cs parts.1 h.1)

in_rows : {C : Type 0} (r : C → ℕ) (q : ℕ) (cs : List C) → is_in q (map r cs) ≡ list_any (λ c. r c == q) cs
in_rows r q [] = refl
in_rows r q (c ∷ cs) = ap (λ b. r c == q || b) (in_rows r q cs)

-- how a row is made of its number: with its value, and with that number
pub record MakesRows {C : Type 0} (v r : C → ℕ) (t : Tables) (m : Machine) (x : ℕ) (make : ℕ → C) : Type 0 where
  pub value : (q : ℕ) → v (make q) ≡ worth t m q x
  pub row : (q : ℕ) → r (make q) ≡ q

in_made : {C : Type 0} (v r : C → ℕ) (t : Tables) (m : Machine) (x : ℕ) (make : ℕ → C) (q : ℕ) (rs : List ℕ) → MakesRows v r t m x make → list_any (λ c. r c == q) (map make rs) ≡ is_in q rs
in_made v r t m x make q [] h = refl
in_made v r t m x make q (i ∷ rs) h = ap (λ j. j == q || list_any (λ c. r c == q) (map make rs)) (h.row i) ∙ ap (λ b. i == q || b) (in_made v r t m x make q rs h)

none_off : {C : Type 0} (v r : C → ℕ) (t : Tables) (m : Machine) (x : ℕ) (make : ℕ → C) (rs : List ℕ) → MakesRows v r t m x make → list_any (is_off v r t m x) (map make rs) ≡ false
none_off v r t m x make [] h = refl
none_off v r t m x make (i ∷ rs) h = rw (eq-eqb (v (make i)) (worth t m (r (make i)) x) (h.value i ∙ ap (λ j. worth t m j x) (sym (h.row i)))) (none_off v r t m x make rs h)

-- the rows that suit, made of numbers among which are all that suit, and sorted
pub best_first_is : {C : Type 0} (v r : C → ℕ) (t : Tables) (m : Machine) (place : Place) (x : ℕ) (make : ℕ → C) (rows : List ℕ) (xs ys : List C)
    → MakesRows v r t m x make → ((q : ℕ) → suits t m place x q ≡ true → is_in q rows ≡ true) → xs ≡ map make (filter (suits t m place x) rows)
    → IsPermutation xs ys → IsSorted (by_value v r) ys → AreBestFirst t m place x (map r ys)
best_first_is v r t m place x make rows xs ys makes all is moved sorted = record {
  each = λ q.
      in_rows r q ys ∙ sym (list_any-IsPermutation (λ c. r c == q) xs ys moved) ∙ ap (list_any (λ c. r c == q)) is
      ∙ in_made v r t m x make q (filter (suits t m place x) rows) makes ∙ all_kept (suits t m place x) rows q (all q);
  order = rows_ordered v r t m x ys
      (sym (list_any-IsPermutation (is_off v r t m x) xs ys moved) ∙ ap (list_any (is_off v r t m x)) is ∙ none_off v r t m x make (filter (suits t m place x) rows) makes)
      (later_all v r ys (λ k d lt. rw add-one at (sorted k d (omega arith) (omega arith))));
}
