-- The due turn of a scan is the first that is due, place by place, row by row and spot by spot.
use Rattle.std.proofs.Common.{◌≡◌, ℕ, zero, suc, ◌<◌, ◌≤◌, Bool, true, false, not, ◌&&◌, ◌||◌, ◌==◌, List, [], ◌∷◌, ◌++◌, map, filter, length, find, Option, Some, None, option_map, refl, ap, ◌∙◌, inl, inr, arith, cond, slice_get, eq-eqb}
use Rattle.std.specs.List.{list_any}
use Rattle.std.specs.Option.{option_map_or}
use Rattle.std.proofs.lemmas.Bool.{cases_lt}
use Rattle.std.proofs.lemmas.Bool.Decides.{nat_tests}
use Rattle.std.proofs.lemmas.List.{append-nil}
use Rattle.cf_types.specs.declared.tables.Place.{Place}
use Rattle.cf_types.specs.declared.tables.Place.TheVariants.{Root, At}
use Rattle.run_rules.specs.declared.world.Setup.{Setup}
use Rattle.run_rules.specs.declared.world.Dev.{Dev}
use Rattle.run_rules.specs.declared.world.Position.{Position}
use Rattle.run_rules.specs.World.{device_at, offered_by, absent_spots, has}
use Rattle.cf_types.specs.declared.machine.Machine.{Machine}
use Rattle.run_rules.specs.declared.world.Turn.{Turn}
use Rattle.run_rules.specs.declared.world.Wanted.{Wanted}
use Rattle.std.specs.List.{enumerate_from}
use Rattle.std.specs.Prelude.{flat_map}
use Rattle.std.proofs.lemmas.List.Folds.{find-append, list_any-append}
use Rattle.std.proofs.lemmas.Grind.{flat_map-append}
use Rattle.std.proofs.lemmas.List.Elements.{filter-append}
use Rattle.cf_types.specs.Numbers.{below}
use Rattle.run_rules.specs.Search.{is_child, is_occupied, child_spots, places_of, scan_places, turns_at, turns_of, is_before, is_due, is_open, due}

pub find_map : {A B : Type 0} (q : B → Bool) (f : A → B) (xs : List A) → find q (map f xs) ≡ option_map f (find (λ x. q (f x)) xs)
find_map q f [] = refl
find_map q f (x ∷ xs) = elim (q (f x)) as (λ b. cond b (Some (f x)) (find q (map f xs)) ≡ option_map f (cond b (Some x) (find (λ x. q (f x)) xs))) [ true ↦ refl | false ↦ find_map q f xs ]

pub find_filter : {A : Type 0} (q c : A → Bool) (xs : List A) → find q (filter c xs) ≡ find (λ x. c x && q x) xs
find_filter q c [] = refl
find_filter {A} q c (x ∷ xs) = elim (c x) as (λ b. find q (cond b (x ∷ filter c xs) (filter c xs)) ≡ cond (b && q x) (Some x) (find (λ x. c x && q x) xs)) [
  | true ↦ ap (λ (r : Option A). cond (q x) (Some x) r) (find_filter q c xs)
  | false ↦ find_filter q c xs
]

pub find_same : {A : Type 0} (p q : A → Bool) (xs : List A) → ((x : A) → p x ≡ q x) → find p xs ≡ find q xs
find_same p q [] h = refl
find_same p q (x ∷ xs) h = rw (h x, find_same p q xs h) refl

-- ---- the first that passes, list by list

pub find_first : {A B : Type 0} (q : B → Bool) (f : A → List B) (x : A) (xs : List A) (t : B) → find q (f x) ≡ Some t → find q (flat_map f (x ∷ xs)) ≡ Some t
find_first q f x xs t e = rw (find-append q (f x) (flat_map f xs), e) refl

pub find_later : {A B : Type 0} (q : B → Bool) (f : A → List B) (x : A) (xs : List A) (o : Option B) → find q (f x) ≡ None → find q (flat_map f xs) ≡ o → find q (flat_map f (x ∷ xs)) ≡ o
find_later q f x xs o e h = rw (find-append q (f x) (flat_map f xs), e) h

flat_below : {B : Type 0} (f : ℕ → List B) (n : ℕ) → flat_map f (below (suc n)) ≡ flat_map f (below n) ++ f n
flat_below f n = rw (flat_map-append f (below n) (n ∷ []), append-nil (f n)) refl

pub flat_none : {B : Type 0} (q : B → Bool) (f : ℕ → List B) (n : ℕ) → ((k : ℕ) → k < n → find q (f k) ≡ None) → find q (flat_map f (below n)) ≡ None
flat_none q f zero h = refl
flat_none q f (suc n) h =
    rw (flat_below f n, find-append q (flat_map f (below n)) (f n), flat_none q f n (λ k lt. h k (omega arith))) (h n (omega arith))

pub flat_is : {B : Type 0} (q : B → Bool) (f : ℕ → List B) (n r : ℕ) (t : B) → r < n → find q (f r) ≡ Some t → ((k : ℕ) → k < r → find q (f k) ≡ None) → find q (flat_map f (below n)) ≡ Some t
flat_is q f zero r t lt here before = absurd (omega arith)
flat_is q f (suc n) r t lt here before =
    elim (cases_lt r n) [
      | inl less ↦ rw (flat_below f n, find-append q (flat_map f (below n)) (f n), flat_is q f n r t less here before) refl
      | inr more ↦
          let same : r ≡ n = omega arith in
          let now : find q (f n) ≡ Some t = rw (← same) here in
          rw (flat_below f n, find-append q (flat_map f (below n)) (f n), flat_none q f n (λ k less. before k (omega arith))) now
    ]

-- ---- the turns of one place

-- the turns of the children of a place, with a test
pub find_children : {B : Type 0} (q : B → Bool) (f : ℕ → B) (m : Machine) (parent : Option ℕ) (place : Place)
    → find q (map f (child_spots m parent place)) ≡ option_map f (find (λ x. is_child m parent place x && q (f x)) (below (length m.spots)))
unfolding child_spots
find_children q f m parent place =
    find_map q f (filter (is_child m parent place) (below (length m.spots))) ∙ ap (option_map f) (find_filter (λ x. q (f x)) (is_child m parent place) (below (length m.spots)))

-- ---- the turns of a scan

places_below : (s : Setup) (live : List Dev) (p : ℕ) (d : Dev) → device_at live p ≡ Some d → scan_places s live p None ≡ map At (offered_by s d.row)
unfolding places_of
places_below s live p d there = rw there refl

places_at_root : (s : Setup) (live : List Dev) (p : ℕ) → device_at live p ≡ None → scan_places s live p None ≡ Root ∷ []
unfolding places_of
places_at_root s live p none = rw none refl

pub due_below : (s : Setup) (live : List Dev) (absent hidden : List ℕ) (p : ℕ) (wanted : List Wanted) (from : Position) (d : Dev) (o : Option Turn)
    → device_at live p ≡ Some d
    → find (λ t. not (is_before t.at from) && is_due s live absent hidden p wanted t) (flat_map (turns_at s live p) (enumerate_from 0 (map At (offered_by s d.row)))) ≡ o
    → due s live absent hidden p None wanted from ≡ o
unfolding due turns_of
due_below s live absent hidden p wanted from d o there e =
    ap (λ places. find (λ t. not (is_before t.at from) && is_due s live absent hidden p wanted t) (flat_map (turns_at s live p) (enumerate_from 0 places)))
    (places_below s live p d there) ∙ e

pub due_at_root : (s : Setup) (live : List Dev) (absent hidden : List ℕ) (p : ℕ) (wanted : List Wanted) (from : Position) (o : Option Turn)
    → device_at live p ≡ None
    → find (λ t. not (is_before t.at from) && is_due s live absent hidden p wanted t) (turns_at s live p (0, Root)) ≡ o
    → due s live absent hidden p None wanted from ≡ o
unfolding due turns_of
due_at_root s live absent hidden p wanted from o none e =
    ap (λ places. find (λ t. not (is_before t.at from) && is_due s live absent hidden p wanted t) (flat_map (turns_at s live p) (enumerate_from 0 places)))
    (places_at_root s live p none)
    ∙ ap (find (λ t. not (is_before t.at from) && is_due s live absent hidden p wanted t)) (append-nil (turns_at s live p (0, Root))) ∙ e

-- ---- tests of listed numbers

has_past : (p : ℕ → Bool) (n x : ℕ) → n ≤ x → has (filter p (below n)) x ≡ false
has_past p zero x le = refl
has_past p (suc n) x le =
    let other : (n == x) ≡ false = grind (arith, nat_tests) in
    rw (filter-append p (below n) (n ∷ []), list_any-append (λ y. y == x) (filter p (below n)) (filter p (n ∷ [])), has_past p n x (omega arith))
    (elim (p n) as (λ b. list_any (λ y. y == x) (cond b (n ∷ []) []) ≡ false) [ true ↦ rw other refl | false ↦ refl ])

pub has_filter : (p : ℕ → Bool) (n x : ℕ) → x < n → has (filter p (below n)) x ≡ p x
has_filter p zero x lt = absurd (omega arith)
has_filter p (suc n) x lt =
    rw (filter-append p (below n) (n ∷ []), list_any-append (λ y. y == x) (filter p (below n)) (filter p (n ∷ [])))
    (elim (cases_lt x n) [
      | inl less ↦
          let other : (n == x) ≡ false = grind (arith, nat_tests) in
          rw (has_filter p n x less) (elim (p n) as (λ b. (p x || list_any (λ y. y == x) (cond b (n ∷ []) [])) ≡ p x) [ true ↦ rw other (or_false (p x)) | false ↦ or_false (p x) ])
      | inr more ↦
          let same : n ≡ x = omega arith in
          let here : (x == x) ≡ true = eq-eqb x x refl in
          rw (same, has_past p x x (omega arith)) (elim (p x) as (λ b. list_any (λ y. y == x) (cond b (x ∷ []) []) ≡ b) [ true ↦ rw here refl | false ↦ refl ])
    ])
  where
    or_false : (b : Bool) → (b || false) ≡ b
    or_false true = refl
    or_false false = refl

pub absent_is : (s : Setup) (x : ℕ) → x < length s.machine.spots → has (absent_spots s) x ≡ option_map_or (λ spot. spot.absent) (slice_get s.machine.spots x) false
unfolding absent_spots
absent_is s x lt = has_filter (λ y. option_map_or (λ spot. spot.absent) (slice_get s.machine.spots y) false) (length s.machine.spots) x lt

pub open_is : (s : Setup) (live : List Dev) (hidden : List ℕ) (x : ℕ) (absent late occupied : Bool) → x < length s.machine.spots
    → absent ≡ option_map_or (λ spot. spot.absent) (slice_get s.machine.spots x) false
    → late ≡ has hidden x
    → occupied ≡ is_occupied live x
    → is_open s.machine live (absent_spots s) hidden [] x ≡ (not absent && not late && not occupied)
unfolding is_open
open_is s live hidden x absent late occupied lt a b c =
    rw (absent_is s x lt, ← a, ← b, ← c) (last (not absent && not late) (not occupied))
  where
    last : (p q : Bool) → (p && q && true) ≡ (p && q)
    last true true = refl
    last true false = refl
    last false q = refl
