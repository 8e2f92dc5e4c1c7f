-- Facts about lists: the place of what passes a test, what is kept, and tests of all elements.
use Rattle.std.proofs.Common.{◌≡◌, ℕ, ◌+◌, ◌-◌, ◌<◌, ◌≤◌, zero, suc, Bool, true, false, cond, Option, Some, None, List, [], ◌∷◌, ◌++◌, length, map, refl, ap, sym, ◌∙◌, subst, append-nil, append_assoc, length-append, arith}
use Rattle.std.specs.Prelude.{flat_map, unwrap_or, not, filter_map, find, position, slice_get, is_some, option_map}
use Rattle.std.specs.List.{enumerate_from, All, list_any, list_all}
use Rattle.std.specs.Option.{option_to_list}
use Rattle.std.specs.List.{cons_option}
use Rattle.std.proofs.lemmas.Bool.{and_parts, and_from, or_parts, or_left, or_right, not-false}
use Rattle.std.proofs.lemmas.List.Elements.{filter_map-append, All-cons, All-head, All-tail, All-append, All-nil}
use Rattle.std.proofs.lemmas.List.{length_push}
use Rattle.cf_types.proofs.ListLemmas.{slice_get-append_back}
pub use Rattle.cf_types.proofs.PlaceLemmas.{position_cons, position-map, position_kept, position_new, position_found, find_found, position_within, find_place}

-- ---- what a function gives

-- what one element gives
one_given : {Y : Type 0} (o : Option Y) → cons_option o [] ≡ option_to_list o
one_given None = refl
one_given (Some y) = refl

-- one more element
pub filter_map_push : {X Y : Type 0} (f : X → Option Y) (xs : List X) (x : X) → filter_map f (xs ++ x ∷ []) ≡ filter_map f xs ++ option_to_list (f x)
filter_map_push f xs x = filter_map-append f xs (x ∷ []) ∙ ap (λ ys. filter_map f xs ++ ys) (one_given (f x))

-- the same is kept where the same is given of each
pub filter_map_same : {X Y : Type 0} (f g : X → Option Y) (xs : List X) → ((i : ℕ) (x : X) → slice_get xs i ≡ Some x → f x ≡ g x) → filter_map f xs ≡ filter_map g xs
filter_map_same f g [] e = refl
filter_map_same f g (x ∷ xs) e =
    ap (λ o. cons_option o (filter_map f xs)) (e 0 x refl)
    ∙ ap (cons_option (g x)) (filter_map_same f g xs (λ i y h. e (suc i) y h))

-- a function of what one element gives
map_given : {Y Z : Type 0} (h : Y → Z) (o : Option Y) (ys : List Y) → map h (cons_option o ys) ≡ cons_option (option_map h o) (map h ys)
map_given h None ys = refl
map_given h (Some y) ys = refl

-- a function of what is kept
pub map-filter_map : {X Y Z : Type 0} (h : Y → Z) (f : X → Option Y) (xs : List X) → map h (filter_map f xs) ≡ filter_map (λ x. option_map h (f x)) xs
map-filter_map h f [] = refl
map-filter_map h f (x ∷ xs) = map_given h (f x) (filter_map f xs) ∙ ap (cons_option (option_map h (f x))) (map-filter_map h f xs)

-- what passes behind it still passes
any_or : {Y : Type 0} (p : Y → Bool) (o : Option Y) (ys : List Y) → list_any p ys ≡ true → list_any p (cons_option o ys) ≡ true
any_or p None ys h = h
any_or p (Some y) ys h = or_right (p y) (list_any p ys) h

-- what one element gives is kept
pub any_given : {X Y : Type 0} (p : Y → Bool) (f : X → Option Y) (xs : List X) (i : ℕ) (x : X) (y : Y) → slice_get xs i ≡ Some x → f x ≡ Some y → p y ≡ true → list_any p (filter_map f xs) ≡ true
any_given p f [] i x y at gives passes = absurd (cc)
any_given p f (z ∷ xs) zero x y at gives passes =
    let here : z ≡ x = cc in
    ap (λ o. list_any p (cons_option o (filter_map f xs))) (ap f here ∙ gives) ∙ or_left (p y) (list_any p (filter_map f xs)) passes
any_given p f (z ∷ xs) (suc i) x y at gives passes = any_or p (f z) (filter_map f xs) (any_given p f xs i x y at gives passes)

-- ---- tests of all elements

-- two functions that agree on what passes
pub map_agree : {X Y : Type 0} (t : X → Bool) (f g : X → Y) → ((x : X) → t x ≡ true → f x ≡ g x) → (xs : List X) → list_all t xs ≡ true → map f xs ≡ map g xs
map_agree t f g e [] h = refl
map_agree t f g e (x ∷ xs) h =
    let parts = and_parts (t x) (list_all t xs) h in
    ap (λ y. y ∷ map f xs) (e x parts.0) ∙ ap (λ ys. g x ∷ ys) (map_agree t f g e xs parts.1)

-- all pass a weaker test
pub all_weaker : {X : Type 0} (s t : X → Bool) → ((x : X) → s x ≡ true → t x ≡ true) → (xs : List X) → list_all s xs ≡ true → list_all t xs ≡ true
all_weaker s t e [] h = refl
all_weaker s t e (x ∷ xs) h =
    let parts = and_parts (s x) (list_all s xs) h in
    and_from (t x) (list_all t xs) (e x parts.0) (all_weaker s t e xs parts.1)

-- where none fails, all pass
pub all_from_none : {X : Type 0} (t : X → Bool) (xs : List X) → list_any (λ x. not (t x)) xs ≡ false → list_all t xs ≡ true
all_from_none t [] h = refl
all_from_none t (x ∷ xs) h =
    let parts = or_parts (not (t x)) (list_any (λ y. not (t y)) xs) h in
    and_from (t x) (list_all t xs) (not-false (t x) parts.0) (all_from_none t xs parts.1)

-- none passes, so each fails
pub all_fail : {X : Type 0} (p : X → Bool) (xs : List X) → list_any p xs ≡ false → All (λ x. p x ≡ false) xs
all_fail p [] h = λ k d q. absurd (omega arith)
all_fail p (x ∷ xs) h =
    let parts = or_parts (p x) (list_any p xs) h in
    All-cons (λ y. p y ≡ false) x xs parts.0 (all_fail p xs parts.1)

-- ---- elements

-- nothing is added
pub with_nothing : {X : Type 0} (xs : List X) → xs ≡ xs ++ []
with_nothing xs = sym (append-nil xs)

-- one element further
found_one : {X : Type 0} (P : X → Type 0) (b : Bool) (x y : X) (o : Option X) → cond b (Some x) o ≡ Some y → P x → (o ≡ Some y → P y) → P y
found_one P true x y o h here ih = let e : x ≡ y = cc in subst P e here
found_one P false x y o h here ih = ih h

-- and of the first that passes
pub all_found : {X : Type 0} (P : X → Type 0) (p : X → Bool) (xs : List X) (y : X) → All P xs → find p xs ≡ Some y → P y
all_found P p [] y h e = absurd (cc)
all_found P p (x ∷ xs) y h e = found_one P (p x) x y (find p xs) e (All-head P x xs h) (all_found P p xs y (All-tail P x xs h))

-- what holds of all in each piece
pub all_pieces : {X Y : Type 0} (P : Y → Type 0) (f : X → List Y) (xs : List X) → All (λ x. All P (f x)) xs → All P (flat_map f xs)
all_pieces P f [] h = All-nil P
all_pieces P f (x ∷ xs) h = All-append P (f x) (flat_map f xs) (All-head (λ z. All P (f z)) x xs h) (all_pieces P f xs (All-tail (λ z. All P (f z)) x xs h))

-- an element with its number stands at that place
pub all_numbered : {X : Type 0} (before xs : List X) → All (λ e. slice_get (before ++ xs) e.0 ≡ Some e.1) (enumerate_from (length before) xs)
all_numbered before [] = All-nil (λ e. slice_get (before ++ []) e.0 ≡ Some e.1)
all_numbered {X} before (x ∷ xs) =
    let none : length before - length before ≡ 0 = omega arith in
    let here : slice_get (before ++ x ∷ xs) (length before) ≡ Some x = slice_get-append_back before (x ∷ xs) (length before) (omega arith) ∙ ap (slice_get (x ∷ xs)) none in
    All-cons (λ e. slice_get (before ++ x ∷ xs) e.0 ≡ Some e.1) (length before, x) (enumerate_from (length before + 1) xs) here
    (subst (λ (n : ℕ). All (λ e. slice_get (before ++ x ∷ xs) e.0 ≡ Some e.1) (enumerate_from n xs)) (length_push before x)
    (subst (λ (zs : List X). All (λ e. slice_get zs e.0 ≡ Some e.1) (enumerate_from (length (before ++ x ∷ [])) xs)) (append_assoc before (x ∷ []) xs) (all_numbered (before ++ x ∷ []) xs)))

-- a place that was found is within the list
pub found_within : {X : Type 0} (p : X → Bool) (xs : List X) (k : ℕ) → position p xs ≡ Some k → k < length xs
found_within p xs k h = subst (λ (o : Option ℕ). unwrap_or o 0 < length xs) h (position_within p xs (ap is_some h))

-- what holds of what an option gives
pub all_of_option : {X : Type 0} (P : X → Type 0) (o : Option X) → ((x : X) → o ≡ Some x → P x) → All P (option_to_list o)
all_of_option P None h = All-nil P
all_of_option P (Some x) h = All-cons P x [] (h x refl) (All-nil P)

-- an option as a list has at most one element
one_at_most : {X : Type 0} (o : Option X) → length (option_to_list o) ≤ 1
one_at_most None = omega arith
one_at_most (Some x) = omega arith

-- a list with what an option adds
pub with_option : {X : Type 0} (xs : List X) (o : Option X) → length (xs ++ option_to_list o) ≤ length xs + 1
with_option xs o = omega (arith, length-append xs (option_to_list o), one_at_most o)
