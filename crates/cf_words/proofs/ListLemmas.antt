-- Lists in general: lists of which each part gives something. Nothing here speaks of this crate's types.
use Rattle.std.proofs.Common.{◌≡◌, ℕ, suc, ◌+◌, ◌-◌, ◌<◌, ◌≤◌, ◌||◌, ◌&&◌, Bool, true, false, cond, not, Option, Some, None, List, [], ◌∷◌, ◌++◌, length, get_or, map, take, drop, refl, ap, sym, ◌∙◌, arith, append_assoc, append-nil}
use Rattle.std.specs.Prelude.{option_map, option_and_then, take_while, is_some}
use Rattle.std.specs.List.{slice_split, onto_first, list_all, list_any, prefix_len, position_or_len, before_first, after_first}
use Rattle.std.proofs.lemmas.List.{drop_more, drop-map, length-drop, length-map, take-map, take_all}
use Rattle.std.proofs.lemmas.List.Folds.{length-prefix_len}
use Rattle.config_rules.specs.Form.{each}

abbrev pub with_front : {A : Type 0} → List A → Option (List A) → Option (List A)
with_front front None = None
with_front front (Some xs) = Some (front ++ xs)

pub with_none : {A : Type 0} (o : Option (List A)) → with_front [] o ≡ o
with_none None = refl
with_none (Some xs) = refl

front_more : {B : Type 0} (front : List B) (y : B) (o : Option (List B)) → with_front (front ++ y ∷ []) o ≡ with_front front (option_map (λ ys. y ∷ ys) o)
front_more front y None = refl
front_more front y (Some ys) = ap Some (append_assoc front (y ∷ []) ys)

-- ---- a loop over parts, of which each gives something

-- one more gives something
pub part_more : {A B : Type 0} (f : A → Option B) (front new : List B) (y : B) (part : A) (left more : List A) (whole : Option (List B)) → with_front front (each f left) ≡ whole
    → left ≡ part ∷ more → Some y ≡ f part → new ≡ front ++ y ∷ [] → with_front new (each f more) ≡ whole
part_more f front new y part left more whole so_far is e grown =
    ap (λ ys. with_front ys (each f more)) grown
    ∙ front_more front y (each f more)
    ∙ ap (λ o. with_front front (option_and_then (λ z. option_map (λ zs. z ∷ zs) (each f more)) o)) e
    ∙ ap (λ ps. with_front front (each f ps)) (sym is)
    ∙ so_far

-- one gives nothing
pub part_none : {A B : Type 0} (f : A → Option B) (front : List B) (part : A) (left more : List A) (whole : Option (List B)) → with_front front (each f left) ≡ whole
    → left ≡ part ∷ more → None ≡ f part → None ≡ whole
part_none f front part left more whole so_far is e =
    ap (λ o. with_front front (option_and_then (λ z. option_map (λ zs. z ∷ zs) (each f more)) o)) e
    ∙ ap (λ ps. with_front front (each f ps)) (sym is)
    ∙ so_far

-- all gave something
pub part_all : {A B : Type 0} (f : A → Option B) (front : List B) (left : List A) (whole : Option (List B)) → with_front front (each f left) ≡ whole → left ≡ [] → Some front ≡ whole
part_all f front left whole so_far is = ap Some (sym (append-nil front)) ∙ ap (λ ps. with_front front (each f ps)) (sym is) ∙ so_far

-- the first part of a list, and the others
pub split_first : {X : Type 0} (p : X → Bool) (xs : List X) → slice_split p xs ≡ before_first p xs ∷ cond (list_any p xs) (slice_split p (after_first p xs)) []
split_first p [] = refl
split_first p (x ∷ xs) = by_test (p x) (position_or_len p xs) (split_first p xs)
  where
    by_test : (b : Bool) (n : ℕ) → slice_split p xs ≡ take n xs ∷ cond (list_any p xs) (slice_split p (drop (n + 1) xs)) []
        → cond b ([] ∷ slice_split p xs) (onto_first x (slice_split p xs))
        ≡ take (cond (not b) (1 + n) 0) (x ∷ xs) ∷ cond (b || list_any p xs) (slice_split p (drop (cond (not b) (1 + n) 0 + 1) (x ∷ xs))) []
    by_test true n e = refl
    by_test false n e =
        let one : 1 + n ≡ suc n = omega arith in
        let two : 1 + n + 1 ≡ suc (n + 1) = omega arith in
        let front : take (1 + n) (x ∷ xs) ≡ x ∷ take n xs = ap (λ m. take m (x ∷ xs)) one in
        let behind : drop (1 + n + 1) (x ∷ xs) ≡ drop (n + 1) xs = ap (λ m. drop m (x ∷ xs)) two in
        ap (onto_first x) e
        ∙ sym (ap (λ ys. ys ∷ cond (list_any p xs) (slice_split p (drop (1 + n + 1) (x ∷ xs))) []) front
        ∙ ap (λ ys. (x ∷ take n xs) ∷ cond (list_any p xs) (slice_split p ys) []) behind)

pub prefix_len-map : {X Y : Type 0} (p : Y → Bool) (f : X → Y) (xs : List X) → prefix_len p (map f xs) ≡ prefix_len (λ x. p (f x)) xs
prefix_len-map p f [] = refl
prefix_len-map p f (x ∷ xs) = ap (λ n. cond (p (f x)) (1 + n) 0) (prefix_len-map p f xs)

-- what stands before the first that passes, of what a function makes of a list
pub map_before : {X Y : Type 0} (f : X → Y) (p : Y → Bool) (xs front : List X) (n : ℕ) → n ≡ length (take_while (λ x. not (p (f x))) xs) → front ≡ take n xs → map f front ≡ before_first p (map f xs)
map_before f p xs front n counted is =
    ap (map f) is ∙ sym (take-map f n xs) ∙ ap (λ k. take k (map f xs)) (counted ∙ length-prefix_len (λ x. not (p (f x))) xs ∙ sym (prefix_len-map (λ y. not (p y)) f xs))

-- and what stands from there on
pub map_from : {X Y : Type 0} (f : X → Y) (p : Y → Bool) (xs back : List X) (n : ℕ) → n ≡ length (take_while (λ x. not (p (f x))) xs) → back ≡ drop n xs → map f back ≡ drop (length (before_first p (map f xs))) (map f xs)
map_from f p xs back n counted is =
    ap (map f) is ∙ sym (drop-map f n xs)
    ∙ ap (λ k. drop k (map f xs)) (counted ∙ length-prefix_len (λ x. not (p (f x))) xs ∙ sym (prefix_len-map (λ y. not (p y)) f xs) ∙ sym (length-prefix_len (λ y. not (p y)) (map f xs)))

-- none passes where all stand before the first that does
pub list_any_past : {X : Type 0} (p : X → Bool) (xs : List X) → length xs ≤ position_or_len p xs → list_any p xs ≡ false
list_any_past p [] h = refl
list_any_past p (x ∷ xs) h = by_test (p x) (list_any_past p xs) h
  where
    by_test : (b : Bool) → (length xs ≤ position_or_len p xs → list_any p xs ≡ false) → length (x ∷ xs) ≤ cond (not b) (1 + position_or_len p xs) 0 → (b || list_any p xs) ≡ false
    by_test true so h = absurd (omega arith)
    by_test false so h = so (omega arith)

pub list_any_within : {X : Type 0} (p : X → Bool) (xs : List X) → position_or_len p xs < length xs → list_any p xs ≡ true
list_any_within p [] h = absurd (omega arith)
list_any_within p (x ∷ xs) h = by_test (p x) (list_any_within p xs) h
  where
    by_test : (b : Bool) → (position_or_len p xs < length xs → list_any p xs ≡ true) → cond (not b) (1 + position_or_len p xs) 0 < length (x ∷ xs) → (b || list_any p xs) ≡ true
    by_test true so h = refl
    by_test false so h = so (omega arith)

-- all from the second on, as slices write it
pub from_second : {X : Type 0} (xs : List X) → take (length xs - 1) (drop 1 xs) ≡ drop 1 xs
from_second xs = take_all (length xs - 1) (drop 1 xs) (omega (arith, length-drop 1 xs))

-- a test of the one element at an index
pub list_any_one : {X : Type 0} (p : X → Bool) (xs : List X) (i : ℕ) (d : X) → i < length xs → list_any p (take 1 (drop i xs)) ≡ p (get_or xs i d)
list_any_one p xs i d h = ap (λ ys. list_any p (take 1 ys)) (drop_more xs i d h) ∙ or_false (p (get_or xs i d))
  where
    or_false : (b : Bool) → (b || false) ≡ b
    or_false true = refl
    or_false false = refl

-- the front and the back of a list, counted from its end, as slices write them
pub map_front : {X Y : Type 0} (f : X → Y) (xs : List X) (n : ℕ) → map f (take (length xs - n) xs) ≡ take (length (map f xs) - n) (map f xs)
map_front f xs n = sym (take-map f (length xs - n) xs) ∙ ap (λ k. take (k - n) (map f xs)) (sym (length-map xs f))

pub map_back : {X Y : Type 0} (f : X → Y) (xs : List X) (n k : ℕ) → length xs ≡ k + n → map f (take (length xs - k) (drop k xs)) ≡ drop (length (map f xs) - n) (map f xs)
map_back f xs n k e =
    ap (map f) (take_all (length xs - k) (drop k xs) (omega (arith, length-drop k xs))) ∙ sym (drop-map f k xs) ∙ ap (λ i. drop i (map f xs)) (omega (arith, length-map xs f))

-- the first and the others, as a slice pattern has them
pub map_first_rest : {X Y : Type 0} (f : X → Y) (xs : List X) (d : X) → 1 ≤ length xs → f (get_or xs 0 d) ∷ map f (take (length xs - 1) (drop 1 xs)) ≡ map f xs
map_first_rest f [] d h = absurd (omega arith)
map_first_rest f (x ∷ xs) d h = ap (λ ys. f x ∷ map f ys) (from_second (x ∷ xs))

pub list_all-map : {X Y : Type 0} (p : Y → Bool) (f : X → Y) (xs : List X) → list_all (λ x. p (f x)) xs ≡ list_all p (map f xs)
list_all-map p f [] = refl
list_all-map p f (x ∷ xs) = ap (λ b. p (f x) && b) (list_all-map p f xs)

-- each gives something
pub is_some-each : {X Y : Type 0} (f : X → Option Y) (xs : List X) → list_all (λ x. is_some (f x)) xs ≡ is_some (each f xs)
is_some-each {X} {Y} f [] = refl
is_some-each {X} {Y} f (x ∷ xs) = ap (λ b. is_some (f x) && b) (is_some-each f xs) ∙ by_first (f x) (each f xs)
  where
    by_first : (o : Option Y) (os : Option (List Y)) → (is_some o && is_some os) ≡ is_some (option_and_then (λ y. option_map (λ ys. y ∷ ys) os) o)
    by_first None os = refl
    by_first (Some y) None = refl
    by_first (Some y) (Some ys) = refl

pub empty_drop : {X : Type 0} (xs : List X) → length xs < 1 → xs ≡ drop 1 xs
empty_drop [] h = refl
empty_drop (x ∷ xs) h = absurd (omega arith)

-- all from an index on, as slices write it
pub map_from_index : {X Y : Type 0} (f : X → Y) (xs : List X) (i : ℕ) → map f (take (length xs - i) (drop i xs)) ≡ drop i (map f xs)
map_from_index f xs i = ap (map f) (take_all (length xs - i) (drop i xs) (omega (arith, length-drop i xs))) ∙ sym (drop-map f i xs)
