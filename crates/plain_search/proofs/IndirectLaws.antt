-- Of pairs of a row and a spot the first that passes a test, row by row, found spot by spot.
use Rattle.std.proofs.Common.{◌≡◌, ℕ, ◌+◌, ◌<◌, ◌≤◌, Bool, true, false, ◌&&◌, length, map, find, Option, Some, None, refl, sym, ap, subst, ◌∙◌, inl, inr, arith}
use Rattle.std.specs.Prelude.{flat_map, if◌then◌else◌, nat_le, nat_lt, option_map}
use Rattle.std.specs.Option.{option_map_or}
use Rattle.std.proofs.lemmas.Bool.Decides.{nat_tests}
use Rattle.std.proofs.lemmas.Bool.{cases_lt, false_from_ne_true}
use Rattle.cf_types.specs.Numbers.{below}
use Rattle.cf_types.specs.declared.machine.Machine.{Machine}
use Rattle.cf_types.specs.declared.tables.Place.{Place}
use Rattle.run_rules.specs.declared.world.Turn.{Turn}
use Rattle.run_rules.specs.Search.{child_spots, is_child}
use Rattle.std.proofs.lemmas.Option.{slice_get_past}
use Rattle.run_rules.proofs.Below.{and_both, find-is, find-none}
use Rattle.run_rules.proofs.Turns.{find_children, flat_is, flat_none}
use Rattle.plain_search.specs.Buses.{IsOnlyAt, better}

-- no pair with a spot below n passes
abbrev pub HasNone : (ℕ → ℕ → Bool) → ℕ → Type 0
HasNone T n = (r x : ℕ) → x < n → T r x ≡ false

-- of those with a spot below n that pass this one has the earliest row, and there the earliest spot
pub record IsLeast (T : ℕ → ℕ → Bool) (n r x : ℕ) : Type 0 where
  pub within : x < n
  pub passes : T r x ≡ true
  pub rows : (q y : ℕ) → y < n → T q y ≡ true → r ≤ q
  pub spots : (y : ℕ) → y < x → T r y ≡ false

clash : (b : Bool) → b ≡ true → b ≡ false → ⊥
clash b h k = absurd cc

-- ---- one spot more

pub none_more : (T : ℕ → ℕ → Bool) (n : ℕ) → HasNone T n → ((r : ℕ) → T r n ≡ false) → HasNone T (n + 1)
none_more T n h here = λ r x lt. elim (cases_lt x n) [
  | inl less ↦ h r x less
  | inr past ↦ let same : x ≡ n = omega arith in subst (λ y. T r y ≡ false) (sym same) (here r)
]

pub least_kept : (T : ℕ → ℕ → Bool) (n r x : ℕ) → IsLeast T n r x → ((q : ℕ) → T q n ≡ true → r ≤ q) → IsLeast T (n + 1) r x
least_kept T n r x h here = record {
  within = omega (arith, h.within);
  passes = h.passes;
  rows = λ q y lt pass. elim (cases_lt y n) [
    | inl less ↦ h.rows q y less pass
    | inr past ↦ let same : y ≡ n = omega arith in here q (subst (λ z. T q z ≡ true) same pass)
  ];
  spots = h.spots;
}

pub least_first : (T : ℕ → ℕ → Bool) (n r : ℕ) → HasNone T n → T r n ≡ true → ((q : ℕ) → T q n ≡ true → q ≡ r) → IsLeast T (n + 1) r n
least_first T n r h pass only = record {
  within = omega arith;
  passes = pass;
  rows = λ q y lt passes. elim (cases_lt y n) [
    | inl less ↦ absurd (clash (T q y) passes (h q y less))
    | inr past ↦ let same : y ≡ n = omega arith in let e = only q (subst (λ z. T q z ≡ true) same passes) in omega (arith, e)
  ];
  spots = λ y lt. h r y lt;
}

pub least_new : (T : ℕ → ℕ → Bool) (n b y r : ℕ) → IsLeast T n b y → r < b → T r n ≡ true → ((q : ℕ) → T q n ≡ true → q ≡ r) → IsLeast T (n + 1) r n
least_new T n b y r h less pass only = record {
  within = omega arith;
  passes = pass;
  rows = λ q z lt passes. elim (cases_lt z n) [
    | inl under ↦ let more = h.rows q z under passes in omega (arith, more)
    | inr past ↦ let same : z ≡ n = omega arith in let e = only q (subst (λ i. T q i ≡ true) same passes) in omega (arith, e)
  ];
  spots = λ z lt. false_from_ne_true (T r z) (λ passes. let more = h.rows r z lt passes in absurd (omega (arith, more, less)));
}

-- ---- the best so far

-- none passes, or this turn has the earliest row, which is beyond the least one
abbrev pub IsBestTo : (ℕ → ℕ → Bool) → (ℕ → ℕ → Turn) → ℕ → ℕ → ℕ → Option Turn → Type 0
IsBestTo T turn rows least n None = HasNone T n
IsBestTo T turn rows least n (Some b) = IsLeast T n b.at.row b.at.spot × (least < b.at.row) × (b ≡ turn b.at.row b.at.spot) × (b.at.row < rows)

above : (least : ℕ) (t : Turn) → nat_le t.at.row least ≡ false → least < t.at.row
above least t h = grind (arith, nat_tests)

not_less : (a b : ℕ) → nat_lt a b ≡ false → b ≤ a
not_less a b h = grind (arith, nat_tests)

is_less : (a b : ℕ) → nat_lt a b ≡ true → a < b
is_less a b h = grind (arith, nat_tests)

pub best_more : (T : ℕ → ℕ → Bool) (turn : ℕ → ℕ → Turn) (rows least n : ℕ) (best t : Option Turn) → ((r x : ℕ) → (turn r x).at.spot ≡ x) → IsBestTo T turn rows least n best → IsOnlyAt T turn rows n t
    → option_map_or (λ t. nat_le t.at.row least) t false ≡ false → IsBestTo T turn rows least (n + 1) (better best t)
best_more T turn rows least n None None at h only past = none_more T n h only
best_more T turn rows least n None (Some t) at h only past =
    let spot : t.at.spot ≡ n = ap (λ (u : Turn). u.at.spot) only.is ∙ at t.at.row n in
    (subst (IsLeast T (n + 1) t.at.row) (sym spot) (least_first T n t.at.row h only.passes only.others), above least t past, only.is ∙ ap (turn t.at.row) (sym spot), only.within)
best_more T turn rows least n (Some b) None at h only past =
    (least_kept T n b.at.row b.at.spot h.0 (λ q pass. absurd (clash (T q n) pass (only q))), h.1, h.2, h.3)
best_more T turn rows least n (Some b) (Some t) at h only past = cases (nat_lt t.at.row b.at.row) refl
  where
    spot : t.at.spot ≡ n
    spot = ap (λ (u : Turn). u.at.spot) only.is ∙ at t.at.row n

    cases : (c : Bool) → nat_lt t.at.row b.at.row ≡ c → IsBestTo T turn rows least (n + 1) (if c then Some t else Some b)
    cases true e =
        (subst (IsLeast T (n + 1) t.at.row) (sym spot) (least_new T n b.at.row b.at.spot t.at.row h.0 (is_less t.at.row b.at.row e) only.passes only.others), above least t past, only.is ∙ ap (turn t.at.row) (sym spot), only.within)
    cases false e =
        let more : b.at.row ≤ t.at.row = not_less t.at.row b.at.row e in
        (least_kept T n b.at.row b.at.spot h.0 (λ q pass. let same = only.others q pass in omega (arith, same, more)), h.1, h.2, h.3)

-- so none of a row up to the least one has passed
pub none_least : (T : ℕ → ℕ → Bool) (turn : ℕ → ℕ → Turn) (rows least n : ℕ) (best : Option Turn) (r y : ℕ) → IsBestTo T turn rows least n best → r ≤ least → y < n → T r y ≡ false
none_least T turn rows least n None r y h le lt = h r y lt
none_least T turn rows least n (Some b) r y h le lt = false_from_ne_true (T r y) (λ pass. let more = h.0.rows r y lt pass in let far = h.1 in absurd (omega (arith, more, far, le)))

-- ---- all pairs

pub pairs_none : (q : Turn → Bool) (f : ℕ → ℕ → Turn) (m : Machine) (parent : Option ℕ) (place : Place) (rows : ℕ)
    → ((r x : ℕ) → (is_child m parent place x && q (f r x)) ≡ false) → find q (flat_map (λ r. map (f r) (child_spots m parent place)) (below rows)) ≡ None
pairs_none q f m parent place rows none =
    flat_none q (λ r. map (f r) (child_spots m parent place)) rows (λ r lt.
    find_children q (f r) m parent place ∙ ap (option_map (f r)) (find-none (λ x. is_child m parent place x && q (f r x)) (length m.spots) (λ x less. none r x)))

pub pairs_least : (q : Turn → Bool) (f : ℕ → ℕ → Turn) (m : Machine) (parent : Option ℕ) (place : Place) (rows r x : ℕ) → r < rows → x < length m.spots
    → (is_child m parent place x && q (f r x)) ≡ true
    → ((k y : ℕ) → k < r → (is_child m parent place y && q (f k y)) ≡ false)
    → ((y : ℕ) → y < x → (is_child m parent place y && q (f r y)) ≡ false)
    → find q (flat_map (λ r. map (f r) (child_spots m parent place)) (below rows)) ≡ Some (f r x)
pairs_least q f m parent place rows r x lt within pass earlier before =
    flat_is q (λ r. map (f r) (child_spots m parent place)) rows r (f r x) lt
    (find_children q (f r) m parent place ∙ ap (option_map (f r)) (find-is (λ y. is_child m parent place y && q (f r y)) (length m.spots) x within pass before))
    (λ k less. find_children q (f k) m parent place ∙ ap (option_map (f k)) (find-none (λ y. is_child m parent place y && q (f k y)) (length m.spots) (λ y lower. earlier k y less)))

-- ---- the end of the search

-- a turn of a row up to the least one is the first
pub found_early : (q : Turn → Bool) (turn : ℕ → ℕ → Turn) (m : Machine) (parent : Option ℕ) (place : Place) (rows least n : ℕ) (best t : Option Turn)
    → IsBestTo (λ r x. is_child m parent place x && q (turn r x)) turn rows least n best → IsOnlyAt (λ r x. is_child m parent place x && q (turn r x)) turn rows n t
    → option_map_or (λ t. nat_le t.at.row least) t false ≡ true → n < length m.spots
    → ((r x : ℕ) → r < least → (is_child m parent place x && q (turn r x)) ≡ false)
    → find q (flat_map (λ r. map (turn r) (child_spots m parent place)) (below rows)) ≡ t
found_early q turn m parent place rows least n best None h only early within passed = absurd cc
found_early q turn m parent place rows least n best (Some t) h only early within passed =
    let low : t.at.row ≤ least = at_most t.at.row early in
    pairs_least q turn m parent place rows t.at.row n only.within within only.passes (λ k y lt. passed k y (omega (arith, lt, low)))
    (λ y lt. none_least (λ r x. is_child m parent place x && q (turn r x)) turn rows least n best t.at.row y h low lt)
    ∙ ap Some (sym only.is)
  where
    at_most : (a : ℕ) → nat_le a least ≡ true → a ≤ least
    at_most a e = grind (arith, nat_tests)

child_inside : (m : Machine) (parent : Option ℕ) (place : Place) (x : ℕ) → is_child m parent place x ≡ true → x < length m.spots
child_inside m parent place x h = elim (cases_lt x (length m.spots)) [
  | inl less ↦ less
  | inr past ↦ let none : false ≡ true = rw (slice_get_past m.spots x past) at h in absurd cc
]

pub no_spot : (m : Machine) (parent : Option ℕ) (place : Place) (x : ℕ) (b : Bool) → length m.spots ≤ x → (is_child m parent place x && b) ≡ false
no_spot m parent place x b past = rw (slice_get_past m.spots x past) refl

-- what is the best of all spots is the first
pub found_best : (q : Turn → Bool) (turn : ℕ → ℕ → Turn) (m : Machine) (parent : Option ℕ) (place : Place) (rows least n : ℕ) (best : Option Turn)
    → IsBestTo (λ r x. is_child m parent place x && q (turn r x)) turn rows least n best
    → ((r x : ℕ) → n ≤ x → (is_child m parent place x && q (turn r x)) ≡ false)
    → find q (flat_map (λ r. map (turn r) (child_spots m parent place)) (below rows)) ≡ best
found_best q turn m parent place rows least n None h rest =
    pairs_none q turn m parent place rows (λ r x. elim (cases_lt x n) [ inl less ↦ h r x less | inr past ↦ rest r x past ])
found_best q turn m parent place rows least n (Some b) h rest =
    let least_is = h.0 in
    pairs_least q turn m parent place rows b.at.row b.at.spot h.3 (child_inside m parent place b.at.spot (and_both _ _ least_is.passes).0) least_is.passes
    (λ k y lt. elim (cases_lt y n) [
      | inl less ↦ false_from_ne_true _ (λ pass. let more = least_is.rows k y less pass in absurd (omega (arith, more, lt)))
      | inr past ↦ rest k y past
    ])
    least_is.spots
    ∙ ap Some (sym h.2)
