-- What the lists of taken units say once one of them is another.
use Rattle.std.proofs.Common.{◌≡◌, ◌<◌, ◌+◌, ℕ, zero, suc, Bool, true, false, not, ◌&&◌, ◌||◌, ◌==◌, List, [], ◌∷◌, ◌++◌, length, slice_set, slice_index_or, refl, sym, ◌∙◌, ap, subst, arith}
use Rattle.std.proofs.lemmas.Bool.{eqb-true, eqb-false}
use Rattle.std.proofs.lemmas.List.{get_or-set_same, get_or-set_other, length-append, length-set, set-get_or}
use Rattle.std.proofs.Math.Bool.{or-false}
use Rattle.cf_types.specs.Gather.{is_in}
use Rattle.unit_alloc.specs.Taken.{GivenBack, IsWith, IsWithout, NoneTaken, TakenToo, is_taken}

-- one unit more
pub one_more : (taken : List (List ℕ)) (device unit d n : ℕ) (list : List ℕ) → device < length taken → IsWith unit (slice_index_or taken device []) list
    → is_taken (slice_set taken device list) d n ≡ (is_taken taken d n || (device == d && unit == n))
one_more taken device unit d n list h e = cases (device == d) refl
  where
    here : is_taken (slice_set taken device list) device n ≡ (is_taken taken device n || unit == n)
    here = ap (is_in n) (get_or-set_same taken device list [] h) ∙ e n

    cases : (b : Bool) → (device == d) ≡ b → is_taken (slice_set taken device list) d n ≡ (is_taken taken d n || (b && unit == n))
    cases false k =
        ap (is_in n) (get_or-set_other taken device d list [] (λ is. eqb-false device d k (sym is))) ∙ sym (or-false (is_taken taken d n))
    cases true k = subst (λ i. is_taken (slice_set taken device list) i n ≡ (is_taken taken i n || unit == n)) (eqb-true device d k) here

-- one unit less
pub one_less : (taken : List (List ℕ)) (device unit d n : ℕ) (list : List ℕ) → device < length taken → IsWithout unit (slice_index_or taken device []) list
    → is_taken (slice_set taken device list) d n ≡ (not (device == d && unit == n) && is_taken taken d n)
one_less taken device unit d n list h e = cases (device == d) refl
  where
    here : is_taken (slice_set taken device list) device n ≡ (not (unit == n) && is_taken taken device n)
    here = ap (is_in n) (get_or-set_same taken device list [] h) ∙ e n

    cases : (b : Bool) → (device == d) ≡ b → is_taken (slice_set taken device list) d n ≡ (not (b && unit == n) && is_taken taken d n)
    cases false k = ap (is_in n) (get_or-set_other taken device d list [] (λ is. eqb-false device d k (sym is)))
    cases true k = subst (λ i. is_taken (slice_set taken device list) i n ≡ (not (unit == n) && is_taken taken i n)) (eqb-true device d k) here

-- ---- the lists of units

pub none_more : (lists : List (List ℕ)) (count : ℕ) → NoneTaken count lists → NoneTaken (count + 1) (lists ++ [] ∷ [])
none_more lists count none =
    record {
      devices = omega (arith, length-append lists ([] ∷ []), none.devices);
      none = λ d n. ap (is_in n) (same lists d) ∙ none.none d n;
    }
  where
    same : (xs : List (List ℕ)) (d : ℕ) → slice_index_or (xs ++ [] ∷ []) d [] ≡ slice_index_or xs d []
    same [] zero = refl
    same [] (suc d) = refl
    same (x ∷ xs) zero = refl
    same (x ∷ xs) (suc d) = same xs d

pub taken_by : (old : List (List ℕ)) (device unit : ℕ) (list : List ℕ) → device < length old → IsWith unit (slice_index_or old device []) list → TakenToo old (slice_set old device list) device unit
taken_by old device unit list h more = record {
  devices = length-set old device list;
  taken = λ d n. one_more old device unit d n list h more;
}

pub kept_by : (old : List (List ℕ)) (device : ℕ) (list : List ℕ) → list ≡ slice_index_or old device [] → slice_set old device list ≡ old
kept_by old device list same = ap (slice_set old device) same ∙ set-get_or old device []

pub given_by : (old : List (List ℕ)) (device unit : ℕ) (list : List ℕ) → device < length old → IsWithout unit (slice_index_or old device []) list
    → GivenBack old (slice_set old device list) device unit
given_by old device unit list h less = record {
  devices = length-set old device list;
  taken = λ d n. one_less old device unit d n list h less;
}
