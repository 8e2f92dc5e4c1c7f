-- The turns of a scan, in their order: what one finds, and what is left behind it.
use Rattle.std.proofs.Common.{◌≡◌, ◌⊎◌, ◌<◌, ◌≤◌, ◌+◌, ℕ, zero, suc, Bool, true, false, ◌&&◌, ◌||◌, ◌==◌, nat_lt, cond, List, [], ◌∷◌, ◌++◌, map, flat_map, length, find, Option, Some, None, refl, sym, ap, ◌∙◌, subst, inl, inr, arith, eq-eqb, slice_get}
use Rattle.std.specs.Prelude.{filter}
use Rattle.std.specs.Option.{option_map_or}
use Rattle.std.specs.List.{AllByRecursion, Contains, enumerate_from}
use Rattle.std.proofs.lemmas.Bool.Decides.{nat_tests}
use Rattle.cf_types.specs.Numbers.{below}
use Rattle.cf_types.specs.declared.machine.Machine.{Machine}
use Rattle.cf_types.specs.declared.tables.Place.{Place}
use Rattle.cf_types.specs.declared.tables.Tables.{Tables}
use Rattle.run_rules.specs.declared.world.Position.{Position}
use Rattle.run_rules.specs.declared.world.Turn.{Turn}
use Rattle.run_rules.specs.Search.{after_turn, bus_turns, child_spots, is_before, is_child, places_of, is_bus_indirect, turns_of}
use Rattle.run_rules.specs.Sound.{EachLater}
use Rattle.run_rules.proofs.Devices.{all_imp, later_snoc}
use Rattle.run_rules.proofs.Each.{all_append, all_below, all_map, later_filter}
use Rattle.run_sound.proofs.Callers.{all_passing, clash}
use Rattle.run_sound.proofs.Members.{all_flat, all_flat_of, of_each}

-- ---- members

abbrev pub Among : {A : Type 0} → A → List A → Type 0
Among x [] = ⊥
Among x (y ∷ ys) = (y ≡ x) ⊎ Among x ys

among_all : {A : Type 0} (xs : List A) → AllByRecursion (λ x. Among x xs) xs
among_all [] = tt
among_all {A} (x ∷ xs) = (inl refl, all_imp (λ (y : A). Among y xs) (λ y. Among y (x ∷ xs)) (λ y h. inr h) xs (among_all xs))

pub among : {A : Type 0} (xs : List A) (x : A) → Contains xs x → Among x xs
among {A} xs x here = of_each (λ (y : A). Among y xs) xs x (among_all xs) here

pub of_among : {A : Type 0} (P : A → Type 0) (xs : List A) (x : A) → AllByRecursion P xs → Among x xs → P x
of_among P [] x h here = absurd here
of_among P (y ∷ ys) x h (inl is) = subst P is h.0
of_among P (y ∷ ys) x h (inr more) = of_among P ys x h.1 more

pub among_left : {A : Type 0} (xs ys : List A) (x : A) → Among x xs → Among x (xs ++ ys)
among_left [] ys x h = absurd h
among_left (y ∷ xs) ys x (inl is) = inl is
among_left (y ∷ xs) ys x (inr more) = inr (among_left xs ys x more)

pub among_right : {A : Type 0} (xs ys : List A) (x : A) → Among x ys → Among x (xs ++ ys)
among_right [] ys x h = h
among_right (y ∷ xs) ys x h = inr (among_right xs ys x h)

pub among_map : {A B : Type 0} (f : A → B) (xs : List A) (x : A) → Among x xs → Among (f x) (map f xs)
among_map f [] x h = absurd h
among_map f (y ∷ xs) x (inl is) = inl (ap f is)
among_map f (y ∷ xs) x (inr more) = inr (among_map f xs x more)

pub among_flat : {A B : Type 0} (f : A → List B) (xs : List A) (x : A) (y : B) → Among x xs → Among y (f x) → Among y (flat_map f xs)
among_flat f [] x y h k = absurd h
among_flat {A} {B} f (z ∷ xs) x y (inl is) k = among_left (f z) (flat_map f xs) y (subst (λ (a : A). Among y (f a)) (sym is) k)
among_flat f (z ∷ xs) x y (inr more) k = among_right (f z) (flat_map f xs) y (among_flat f xs x y more k)

pub among_filter : {A : Type 0} (test : A → Bool) (xs : List A) (x : A) → test x ≡ true → Among x xs → Among x (filter test xs)
among_filter test [] x passes h = absurd h
among_filter {A} test (y ∷ xs) x passes (inl is) = subst (λ (z : A). Among x (cond (test z) (z ∷ filter test xs) (filter test xs))) (sym is) (rw passes (inl refl))
among_filter {A} test (y ∷ xs) x passes (inr more) = cases (test y) (among_filter test xs x passes more)
  where
    cases : (b : Bool) → Among x (filter test xs) → Among x (cond b (y ∷ filter test xs) (filter test xs))
    cases true h = inr h
    cases false h = h

pub among_below : (n x : ℕ) → x < n → Among x (below n)
among_below zero x lt = absurd (omega arith)
among_below (suc n) x lt = elim (split x n lt) [ inl less ↦ among_left (below n) (n ∷ []) x (among_below n x less) | inr same ↦ among_right (below n) (n ∷ []) x (inl (sym same)) ]
  where
    split : (x n : ℕ) → x < suc n → (x < n) ⊎ (x ≡ n)
    split zero zero lt = inr refl
    split zero (suc n) lt = inl (omega arith)
    split (suc x) zero lt = absurd (omega arith)
    split (suc x) (suc n) lt = elim (split x n (omega arith)) [ inl less ↦ inl (omega arith) | inr same ↦ inr (ap suc same) ]

-- ---- the first that passes a test

-- the first that passes, and one that passes: it is that one, or stands behind it
pub first_or_behind : {A : Type 0} (R : A → A → Type 0) (test : A → Bool) (xs : List A) (x y : A) → EachLater R xs → find test xs ≡ Some x → Among y xs → test y ≡ true → (x ≡ y) ⊎ R x y
first_or_behind R test [] x y h e here passes = absurd here
first_or_behind {A} R test (z ∷ xs) x y h e here passes = cases (λ k more. first_or_behind R test xs x y h.1 k more passes) (test z) refl e here
  where
    some_is : (a b : A) → Some a ≡ Some b → a ≡ b
    some_is a b k = cc

    behind : (z ≡ x) → Among y (z ∷ xs) → (x ≡ y) ⊎ R x y
    behind is (inl same) = inl (sym is ∙ same)
    behind is (inr more) = inr (subst (λ (a : A). R a y) is (of_among (R z) xs y h.0 more))

    cases : (find test xs ≡ Some x → Among y xs → (x ≡ y) ⊎ R x y) → (b : Bool) → test z ≡ b → cond b (Some z) (find test xs) ≡ Some x → Among y (z ∷ xs) → (x ≡ y) ⊎ R x y
    cases later true is k at = behind (some_is z x k) at
    cases later false is k (inl same) = clash (test y) passes (ap test (sym same) ∙ is)
    cases later false is k (inr more) = later k more

pub none_passes : {A : Type 0} (test : A → Bool) (xs : List A) (y : A) → find test xs ≡ None → Among y xs → test y ≡ true → ⊥
none_passes test [] y e here passes = here
none_passes {A} test (z ∷ xs) y e here passes = cases (λ k more. none_passes test xs y k more passes) (test z) refl e here
  where
    cases : (find test xs ≡ None → Among y xs → ⊥) → (b : Bool) → test z ≡ b → cond b (Some z) (find test xs) ≡ None → Among y (z ∷ xs) → ⊥
    cases later true is k h = absurd cc
    cases later false is k (inl same) = clash (test y) passes (ap test (sym same) ∙ is)
    cases later false is k (inr more) = later k more

-- ---- lists in order

pub later_append : {A : Type 0} (R : A → A → Type 0) (xs ys : List A) → EachLater R xs → EachLater R ys → AllByRecursion (λ x. AllByRecursion (R x) ys) xs → EachLater R (xs ++ ys)
later_append R [] ys h k across = k
later_append R (x ∷ xs) ys h k across = (all_append (R x) xs ys h.0 across.0, later_append R xs ys h.1 k across.1)

pub later_map : {A B : Type 0} (R : B → B → Type 0) (f : A → B) (xs : List A) → EachLater (λ x y. R (f x) (f y)) xs → EachLater R (map f xs)
later_map R f [] h = tt
later_map R f (x ∷ xs) h = (all_map (R (f x)) f xs h.0, later_map R f xs h.1)

later_imp : {A : Type 0} (R S : A → A → Type 0) → ((x y : A) → R x y → S x y) → (xs : List A) → EachLater R xs → EachLater S xs
later_imp R S f [] h = tt
later_imp R S f (x ∷ xs) h = (all_imp (R x) (S x) (f x) xs h.0, later_imp R S f xs h.1)

rising_below : (n : ℕ) → EachLater (λ x y. x < y) (below n)
rising_below zero = tt
rising_below (suc n) = later_snoc (λ x y. x < y) (below n) n (rising_below n) (all_below n)

-- ---- turns

-- the later turn is not before the position behind the earlier one
abbrev pub Later : Turn → Turn → Type 0
Later t u = is_before u.at (after_turn t) ≡ false

past_attr : (a b r q x y : ℕ) → b < a → (nat_lt a b || (a == b && (nat_lt r q || (r == q && nat_lt x y)))) ≡ false
past_attr a b r q x y lt =
    let out : nat_lt a b ≡ false = grind (arith, nat_tests) in
    let other : (a == b) ≡ false = grind (arith, nat_tests) in
    rw (out, other) refl

past_spot : (a x y : ℕ) → x < y → (nat_lt a a || (a == a && (nat_lt 0 0 || (0 == 0 && nat_lt y (x + 1))))) ≡ false
past_spot a x y lt =
    let out : nat_lt a a ≡ false = grind (arith, nat_tests) in
    let same : (a == a) ≡ true = eq-eqb a a refl in
    let none : nat_lt y (x + 1) ≡ false = grind (arith, nat_tests) in
    rw (out, same, none) refl

after_attr : (t : Turn) → (after_turn t).attr ≡ t.at.attr
unfolding after_turn
after_attr t = cases t.indirect
  where
    cases : (b : Bool) → (cond {A = Position} b (record { attr = t.at.attr; row = t.at.row; spot = 0 }) (record { attr = t.at.attr; row = 0; spot = t.at.spot + 1 })).attr ≡ t.at.attr
    cases true = refl
    cases false = refl

later_place : (t u : Turn) → t.at.attr < u.at.attr → Later t u
unfolding is_before
later_place t u lt = past_attr u.at.attr (after_turn t).attr u.at.row (after_turn t).row u.at.spot (after_turn t).spot (omega (arith, lt, after_attr t))

-- ---- the turns of one place

abbrev direct_turn : ℕ × Place → ℕ → Turn
direct_turn e x = record { at = record { attr = e.0; row = 0; spot = x }; place = e.1; indirect = false }

abbrev pair_turn : ℕ × Place → ℕ → ℕ → Turn
pair_turn e r x = record { at = record { attr = e.0; row = r; spot = x }; place = e.1; indirect = true }

direct_later : (e : ℕ × Place) (x y : ℕ) → x < y → Later (direct_turn e x) (direct_turn e y)
unfolding is_before after_turn
direct_later e x y lt = past_spot e.0 x y lt

past_row : (a r q y : ℕ) → r ≤ q → (nat_lt a a || (a == a && (nat_lt q r || (q == r && nat_lt y 0)))) ≡ false
past_row a r q y le =
    let out : nat_lt a a ≡ false = grind (arith, nat_tests) in
    let same : (a == a) ≡ true = eq-eqb a a refl in
    let row : nat_lt q r ≡ false = grind (arith, nat_tests) in
    let spot : nat_lt y 0 ≡ false = grind (arith, nat_tests) in
    rw (out, same, row, spot) (none (q == r))
  where
    none : (b : Bool) → (false || (true && (false || (b && false)))) ≡ false
    none true = refl
    none false = refl

pair_later : (e : ℕ × Place) (r q x y : ℕ) → r ≤ q → Later (pair_turn e r x) (pair_turn e q y)
unfolding is_before after_turn
pair_later e r q x y le = past_row e.0 r q y le

children_rise : (m : Machine) (spot : Option ℕ) (place : Place) → EachLater (λ x y. x < y) (child_spots m spot place)
unfolding child_spots
children_rise m spot place = later_filter (λ x y. x < y) (is_child m spot place) (below (length m.spots)) (rising_below (length m.spots))

mapped : {A B : Type 0} (P : B → Type 0) (f : A → B) → ((x : A) → P (f x)) → (xs : List A) → AllByRecursion P (map f xs)
mapped P f h [] = tt
mapped P f h (x ∷ xs) = (h x, mapped P f h xs)

every_later : {A : Type 0} (R : A → A → Type 0) → ((x y : A) → R x y) → (xs : List A) → EachLater R xs
every_later R h [] = tt
every_later R h (x ∷ xs) = (all_of xs, every_later R h xs)
  where
    all_of : (ys : List _) → AllByRecursion (R x) ys
    all_of [] = tt
    all_of (y ∷ ys) = (h x y, all_of ys)

pairs_later : (e : ℕ × Place) (xs rs : List ℕ) → EachLater (λ r q. r < q) rs → EachLater Later (flat_map (λ r. map (pair_turn e r) xs) rs)
pairs_later e xs [] h = tt
pairs_later e xs (r ∷ rs) h =
    later_append Later (map (pair_turn e r) xs) (flat_map (λ r. map (pair_turn e r) xs) rs)
    (later_map Later (pair_turn e r) xs (every_later (λ x y. Later (pair_turn e r x) (pair_turn e r y)) (λ x y. pair_later e r r x y (omega arith)) xs)) (pairs_later e xs rs h.1)
    (mapped (λ (t : Turn). AllByRecursion (Later t) (flat_map (λ r. map (pair_turn e r) xs) rs)) (pair_turn e r)
    (λ x. all_flat_of (Later (pair_turn e r x)) (λ q. r < q) (λ q. map (pair_turn e q) xs) rs (λ q lt. mapped (Later (pair_turn e r x)) (pair_turn e q) (λ y. pair_later e r q x y (omega arith)) xs) h.0) xs)

bus_later : (m : Machine) (rows : ℕ) (indirect : Bool) (spot : Option ℕ) (e : ℕ × Place) → EachLater Later (bus_turns m rows indirect spot e)
unfolding bus_turns
bus_later m rows false spot e =
    later_map Later (direct_turn e) (child_spots m spot e.1) (later_imp (λ x y. x < y) (λ x y. Later (direct_turn e x) (direct_turn e y)) (direct_later e) (child_spots m spot e.1) (children_rise m spot e.1))
bus_later m rows true spot e =
    pairs_later e (child_spots m spot e.1) (below rows) (rising_below rows)

-- each is of the place's number and place, and of a spot that hangs there
pub record IsOfPlace (m : Machine) (spot : Option ℕ) (e : ℕ × Place) (t : Turn) : Type 0 where
  pub number : t.at.attr ≡ e.0
  pub place : t.place ≡ e.1
  pub child : is_child m spot t.place t.at.spot ≡ true

children_hang : (m : Machine) (spot : Option ℕ) (place : Place) → AllByRecursion (λ x. is_child m spot place x ≡ true) (child_spots m spot place)
unfolding child_spots
children_hang m spot place = all_passing (is_child m spot place) (below (length m.spots))

bus_of_place : (m : Machine) (rows : ℕ) (indirect : Bool) (spot : Option ℕ) (e : ℕ × Place) → AllByRecursion (IsOfPlace m spot e) (bus_turns m rows indirect spot e)
unfolding bus_turns
bus_of_place m rows false spot e =
    all_map (IsOfPlace m spot e) (direct_turn e) (child_spots m spot e.1)
    (all_imp (λ x. is_child m spot e.1 x ≡ true) (λ x. IsOfPlace m spot e (direct_turn e x)) (λ x h. record { number = refl; place = refl; child = h }) (child_spots m spot e.1) (children_hang m spot e.1))
bus_of_place m rows true spot e =
    all_flat (IsOfPlace m spot e) (λ r. map (pair_turn e r) (child_spots m spot e.1)) (below rows)
    (λ r. all_map (IsOfPlace m spot e) (pair_turn e r) (child_spots m spot e.1)
    (all_imp (λ x. is_child m spot e.1 x ≡ true) (λ x. IsOfPlace m spot e (pair_turn e r x)) (λ x h. record { number = refl; place = refl; child = h }) (child_spots m spot e.1) (children_hang m spot e.1)))

-- ---- the turns of a scan

module _ (m : Machine) (rows : ℕ) (attach spot : Option ℕ) where
  abbrev at_place : ℕ × Place → List Turn
  at_place e = bus_turns m rows (is_bus_indirect m attach e.1) spot e

  abbrev Follows : ℕ → Turn → Type 0
  Follows n t = (n ≤ t.at.attr) × (is_child m spot t.place t.at.spot ≡ true)

  followed : (n : ℕ) (places : List Place) → AllByRecursion (Follows n) (flat_map at_place (enumerate_from n places))
  followed n [] = tt
  followed n (place ∷ places) =
      all_append (Follows n) (at_place (n, place)) (flat_map at_place (enumerate_from (n + 1) places))
      (all_imp (IsOfPlace m spot (n, place)) (Follows n) (λ t h. (omega (arith, h.number), h.child)) (at_place (n, place)) (bus_of_place m rows (is_bus_indirect m attach place) spot (n, place)))
      (all_imp (Follows (n + 1)) (Follows n) (λ t h. (omega (arith, h.0), h.1)) (flat_map at_place (enumerate_from (n + 1) places)) (followed (n + 1) places))

  in_order : (n : ℕ) (places : List Place) → EachLater Later (flat_map at_place (enumerate_from n places))
  in_order n [] = tt
  in_order n (place ∷ places) =
      later_append Later (at_place (n, place)) (flat_map at_place (enumerate_from (n + 1) places)) (bus_later m rows (is_bus_indirect m attach place) spot (n, place)) (in_order (n + 1) places)
      (all_imp (IsOfPlace m spot (n, place)) (λ t. AllByRecursion (Later t) (flat_map at_place (enumerate_from (n + 1) places)))
      (λ t h. all_imp (Follows (n + 1)) (Later t) (λ u k. later_place t u (omega (arith, h.number, k.0))) (flat_map at_place (enumerate_from (n + 1) places)) (followed (n + 1) places))
      (at_place (n, place)) (bus_of_place m rows (is_bus_indirect m attach place) spot (n, place)))

pub turns_in_order : (t : Tables) (m : Machine) (driver attach spot only : Option ℕ) → EachLater Later (turns_of t m driver attach spot only)
unfolding turns_of
turns_in_order t m driver attach spot only = in_order m (length t.rows) attach spot 0 (places_of t driver only)

pub turns_hang : (t : Tables) (m : Machine) (driver attach spot only : Option ℕ) → AllByRecursion (λ (u : Turn). is_child m spot u.place u.at.spot ≡ true) (turns_of t m driver attach spot only)
unfolding turns_of
turns_hang t m driver attach spot only =
    all_imp (Follows m (length t.rows) attach spot 0) (λ (u : Turn). is_child m spot u.place u.at.spot ≡ true) (λ u h. h.1) _ (followed m (length t.rows) attach spot 0 (places_of t driver only))

-- ---- each spot of a direct bus has its turn, and on an indirect one a turn with each row

pub record HasTurn (ts : List Turn) (place : Place) (x : ℕ) (indirect : Bool) (r : ℕ) : Type 0 where
  pub turn : Turn
  pub among : Among turn ts
  pub at : turn.at.spot ≡ x
  pub of : turn.place ≡ place
  pub style : turn.indirect ≡ indirect
  pub row : indirect ≡ true → turn.at.row ≡ r

record IsNumbered (n : ℕ) (places : List Place) (place : Place) : Type 0 where
  number : ℕ
  among : Among (number, place) (enumerate_from n places)

numbered : (n : ℕ) (places : List Place) (place : Place) → Among place places → IsNumbered n places place
numbered n [] place h = absurd h
numbered n (p ∷ places) place (inl is) = record { number = n; among = inl (ap (λ (q : Place). (n, q)) is) }
numbered n (p ∷ places) place (inr more) = let later = numbered (n + 1) places place more in record { number = later.number; among = inr later.among }

inside : (m : Machine) (spot : Option ℕ) (place : Place) (x : ℕ) → is_child m spot place x ≡ true → Among x (child_spots m spot place)
unfolding child_spots
inside m spot place x h = among_filter (is_child m spot place) (below (length m.spots)) x h (among_below (length m.spots) x (there m.spots x _ h))
  where
    there : {A : Type 0} (xs : List A) (i : ℕ) (f : A → Bool) → option_map_or f (slice_get xs i) false ≡ true → i < length xs
    there [] i f k = absurd cc
    there (y ∷ xs) zero f k = omega arith
    there (y ∷ xs) (suc i) f k = omega (arith, there xs i f k)

pub has_turn : (t : Tables) (m : Machine) (driver attach spot : Option ℕ) (place : Place) (x r : ℕ) (indirect : Bool) → Among place (places_of t driver None) → is_bus_indirect m attach place ≡ indirect → is_child m spot place x ≡ true
    → (indirect ≡ true → r < length t.rows) → HasTurn (turns_of t m driver attach spot None) place x indirect r
unfolding turns_of bus_turns
has_turn t m driver attach spot place x r false offered style child low =
    let at = numbered 0 (places_of t driver None) place offered in
    record {
      turn = direct_turn (at.number, place) x;
      among =
          among_flat (λ (e : ℕ × Place). bus_turns m (length t.rows) (is_bus_indirect m attach e.1) spot e) (enumerate_from 0 (places_of t driver None)) (at.number, place) (direct_turn (at.number, place) x) at.among
          (rw style (among_map (direct_turn (at.number, place)) (child_spots m spot place) x (inside m spot place x child)));
      at = refl;
      of = refl;
      style = refl;
      row = λ h. absurd cc;
    }
has_turn t m driver attach spot place x r true offered style child low =
    let at = numbered 0 (places_of t driver None) place offered in
    record {
      turn = pair_turn (at.number, place) r x;
      among =
          among_flat (λ (e : ℕ × Place). bus_turns m (length t.rows) (is_bus_indirect m attach e.1) spot e) (enumerate_from 0 (places_of t driver None)) (at.number, place) (pair_turn (at.number, place) r x) at.among
          (rw style (among_flat (λ q. map (pair_turn (at.number, place) q) (child_spots m spot place)) (below (length t.rows)) r (pair_turn (at.number, place) r x) (among_below (length t.rows) r (low refl))
          (among_map (pair_turn (at.number, place) r) (child_spots m spot place) x (inside m spot place x child))));
      at = refl;
      of = refl;
      style = refl;
      row = λ h. refl;
    }
