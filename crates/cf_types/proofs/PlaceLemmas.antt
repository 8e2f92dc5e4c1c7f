-- The place of the first element that passes a test.
use Rattle.std.proofs.Common.{◌≡◌, ℕ, ◌+◌, ◌<◌, suc, Bool, true, false, cond, ◌||◌, Option, Some, None, List, [], ◌∷◌, ◌++◌, length, map, refl, ap, sym, ◌∙◌, subst, arith}
use Rattle.std.specs.Prelude.{unwrap_or, not, nat_lt, find, position, slice_get, is_some, option_map}
use Rattle.std.specs.List.{list_any, prefix_len}
use Rattle.std.proofs.lemmas.Bool.{lt-ltb}
use Rattle.std.proofs.lemmas.Bool.Decides.{nat_tests}

-- a place counted from one element further
one_on : (c : Bool) (n : ℕ) → cond c (Some (1 + n)) None ≡ option_map (λ k. k + 1) (cond c (Some n) None)
one_on true n = let e : 1 + n ≡ n + 1 = omega arith in ap Some e
one_on false n = refl

-- the first place, where it is known whether the first element passes
position_if : (b : Bool) (n l : ℕ) → cond (nat_lt (cond (not b) (1 + n) 0) (suc l)) (Some (cond (not b) (1 + n) 0)) None ≡ cond b (Some 0) (option_map (λ k. k + 1) (cond (nat_lt n l) (Some n) None))
position_if true n l = ap (λ c. cond c (Some 0) None) (lt-ltb 0 (suc l) (omega arith))
position_if false n l = let e : nat_lt (1 + n) (suc l) ≡ nat_lt n l = grind (arith, nat_tests) in ap (λ c. cond c (Some (1 + n)) None) e ∙ one_on (nat_lt n l) n

-- the place of the first that passes, by cases
pub position_cons : {X : Type 0} (p : X → Bool) (x : X) (xs : List X) → position p (x ∷ xs) ≡ cond (p x) (Some 0) (option_map (λ k. k + 1) (position p xs))
position_cons p x xs = position_if (p x) (prefix_len (λ y. not (p y)) xs) (length xs)

-- it is the same in a list of what a function gives
pub position-map : {X Y : Type 0} (p : Y → Bool) (f : X → Y) (xs : List X) → position p (map f xs) ≡ position (λ x. p (f x)) xs
position-map p f [] = refl
position-map p f (x ∷ xs) =
    position_cons p (f x) (map f xs)
    ∙ ap (λ o. cond (p (f x)) (Some 0) (option_map (λ k. k + 1) o)) (position-map p f xs)
    ∙ sym (position_cons (λ y. p (f y)) x xs)

-- a place that is kept, one element further
kept_if : (b : Bool) (o q : Option ℕ) → is_some (cond b (Some 0) (option_map (λ k. k + 1) q)) ≡ true → (is_some q ≡ true → o ≡ q) → cond b (Some 0) (option_map (λ k. k + 1) o) ≡ cond b (Some 0) (option_map (λ k. k + 1) q)
kept_if true o q h ih = refl
kept_if false o None h ih = absurd (cc)
kept_if false o (Some k) h ih = ap (option_map (λ n. n + 1)) (ih refl)

-- what comes behind doesn't change the place of what was found
pub position_kept : {X : Type 0} (p : X → Bool) (xs ys : List X) → is_some (position p xs) ≡ true → position p (xs ++ ys) ≡ position p xs
position_kept p [] ys h = absurd (cc)
position_kept p (x ∷ xs) ys h =
    position_cons p x (xs ++ ys)
    ∙ kept_if (p x) (position p (xs ++ ys)) (position p xs) (ap is_some (sym (position_cons p x xs)) ∙ h) (position_kept p xs ys)
    ∙ sym (position_cons p x xs)

-- a new place, one element further
new_if : (b : Bool) (o q : Option ℕ) (n : ℕ) → is_some (cond b (Some 0) (option_map (λ k. k + 1) q)) ≡ false → (is_some q ≡ false → o ≡ Some n) → cond b (Some 0) (option_map (λ k. k + 1) o) ≡ Some (suc n)
new_if true o q n h ih = absurd (cc)
new_if false o None n h ih = let e : n + 1 ≡ suc n = omega arith in ap (option_map (λ k. k + 1)) (ih refl) ∙ ap Some e
new_if false o (Some k) n h ih = absurd (cc)

-- a new element that is the first to pass stands at the end
pub position_new : {X : Type 0} (p : X → Bool) (xs : List X) (y : X) → is_some (position p xs) ≡ false → p y ≡ true → position p (xs ++ y ∷ []) ≡ Some (length xs)
position_new p [] y h e = position_cons p y [] ∙ ap (λ b. cond b (Some 0) None) e
position_new p (x ∷ xs) y h e =
    position_cons p x (xs ++ y ∷ [])
    ∙ new_if (p x) (position p (xs ++ y ∷ [])) (position p xs) (length xs) (ap is_some (sym (position_cons p x xs)) ∙ h) (λ none. position_new p xs y none e)

-- whether there is a place, one element further
found_if : (b : Bool) (o : Option ℕ) → is_some (cond b (Some 0) (option_map (λ k. k + 1) o)) ≡ (b || is_some o)
found_if true o = refl
found_if false None = refl
found_if false (Some k) = refl

-- there is a place exactly where an element passes
pub position_found : {X : Type 0} (p : X → Bool) (xs : List X) → is_some (position p xs) ≡ list_any p xs
position_found p [] = refl
position_found p (x ∷ xs) = ap is_some (position_cons p x xs) ∙ found_if (p x) (position p xs) ∙ ap (λ b. p x || b) (position_found p xs)

-- whether there is a first element, one element further
first_if : {X : Type 0} (b : Bool) (x : X) (o : Option X) → is_some (cond b (Some x) o) ≡ (b || is_some o)
first_if true x o = refl
first_if false x o = refl

-- and so is there a first element that passes
pub find_found : {X : Type 0} (p : X → Bool) (xs : List X) → is_some (find p xs) ≡ list_any p xs
find_found p [] = refl
find_found p (x ∷ xs) = first_if (p x) x (find p xs) ∙ ap (λ b. p x || b) (find_found p xs)

-- a place within the list, one element further
within_if : (b : Bool) (o : Option ℕ) (n : ℕ) → is_some (cond b (Some 0) (option_map (λ k. k + 1) o)) ≡ true → (is_some o ≡ true → unwrap_or o 0 < n) → unwrap_or (cond b (Some 0) (option_map (λ k. k + 1) o)) 0 < suc n
within_if true o n h ih = omega arith
within_if false None n h ih = absurd (cc)
within_if false (Some k) n h ih = let below : k < n = ih refl in omega arith

-- the place of what is found is within the list
pub position_within : {X : Type 0} (p : X → Bool) (xs : List X) → is_some (position p xs) ≡ true → unwrap_or (position p xs) 0 < length xs
position_within p [] h = absurd (cc)
position_within p (x ∷ xs) h =
    subst (λ (o : Option ℕ). unwrap_or o 0 < suc (length xs)) (sym (position_cons p x xs))
    (within_if (p x) (position p xs) (length xs) (ap is_some (sym (position_cons p x xs)) ∙ h) (position_within p xs))

-- the element at the place, one element further
place_if : {X : Type 0} (b : Bool) (x y : X) (xs : List X) (o : Option ℕ) (f : Option X) → is_some o ≡ is_some f → cond b (Some x) f ≡ Some y → (f ≡ Some y → slice_get xs (unwrap_or o 0) ≡ Some y)
    → slice_get (x ∷ xs) (unwrap_or (cond b (Some 0) (option_map (λ k. k + 1) o)) 0) ≡ Some y
place_if true x y xs o f same h ih = h
place_if false x y xs None f same h ih = absurd (let e : is_some f ≡ true = ap is_some h in cc)
place_if false x y xs (Some k) f same h ih = let e : k + 1 ≡ suc k = omega arith in ap (slice_get (x ∷ xs)) e ∙ ih h

-- the first element that passes stands at that place
pub find_place : {X : Type 0} (p : X → Bool) (xs : List X) (y : X) → find p xs ≡ Some y → slice_get xs (unwrap_or (position p xs) 0) ≡ Some y
find_place p [] y h = absurd (cc)
find_place p (x ∷ xs) y h =
    ap (λ o. slice_get (x ∷ xs) (unwrap_or o 0)) (position_cons p x xs)
    ∙ place_if (p x) x y xs (position p xs) (find p xs) (position_found p xs ∙ sym (find_found p xs)) h (find_place p xs y)
