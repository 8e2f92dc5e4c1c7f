-- Facts of each element of a list, by its elements.
use Rattle.std.proofs.Common.{◌≡◌, ℕ, zero, suc, ◌<◌, ◌==◌, Bool, true, false, List, [], ◌∷◌, map, flat_map, find, length, reverse, cond, subst, get_or, Some, inl, inr, ◌∙◌, refl, sym, ap, arith, eq-eqb, is_some, Option, None}
use Rattle.std.proofs.lemmas.Option.{same_Some}
use Rattle.std.specs.Prelude.{⊤, filter}
use Rattle.std.specs.List.{AllByRecursion, Contains, list_any}
use Rattle.std.proofs.lemmas.Bool.{eqb-true, cond_both, cases_order, or_cases, or_left, or_right}
use Rattle.std.proofs.lemmas.List.{get_or_default, reverse-append}
use Rattle.std.proofs.lemmas.List.Folds.{list_any_at, Any-from_list_any}
use Rattle.run_rules.specs.declared.world.Setup.{Setup}
use Rattle.run_rules.specs.declared.world.Dev.{Dev}
use Rattle.run_rules.specs.World.{is_live, is_condemned}
use Rattle.run_rules.specs.Sound.{EachLater, IsApart}
use Rattle.run_rules.proofs.Devices.{all_snoc}
use Rattle.run_sound.proofs.Callers.{all_append, all_filter, clash}
use Rattle.std.proofs.lemmas.List.Elements.{All-from_recursion, recursion_from_All, All-weaker, All-contains_itself, All-contains}

-- what each element has, an element has
pub of_each : {A : Type 0} (P : A → Type 0) (xs : List A) (x : A) → AllByRecursion P xs → Contains xs x → P x
of_each P xs x h here = All-contains P xs x (All-from_recursion P xs h) here

-- what each element has, if it is one of the list
pub each_of : {A : Type 0} (P : A → Type 0) (xs : List A) → ((x : A) → Contains xs x → P x) → AllByRecursion P xs
each_of P xs f = recursion_from_All P xs (All-weaker (Contains xs) P f xs (All-contains_itself xs))

pub all_map : {A B : Type 0} (P : B → Type 0) (Q : A → Type 0) (f : A → B) (xs : List A) → ((x : A) → Q x → P (f x)) → AllByRecursion Q xs → AllByRecursion P (map f xs)
all_map P Q f [] g h = tt
all_map P Q f (x ∷ xs) g h = (g x h.0, all_map P Q f xs g h.1)

pub all_flat_of : {A B : Type 0} (P : B → Type 0) (Q : A → Type 0) (f : A → List B) (xs : List A) → ((x : A) → Q x → AllByRecursion P (f x)) → AllByRecursion Q xs
    → AllByRecursion P (flat_map f xs)
all_flat_of P Q f [] h all = tt
all_flat_of P Q f (x ∷ xs) h all = all_append P (f x) (flat_map f xs) (h x all.0) (all_flat_of P Q f xs h all.1)

pub all_flat : {A B : Type 0} (P : B → Type 0) (f : A → List B) (xs : List A) → ((x : A) → AllByRecursion P (f x)) → AllByRecursion P (flat_map f xs)
all_flat P f xs h = all_flat_of P (λ x. ⊤) f xs (λ x t. h x) (each_of (λ x. ⊤) xs (λ x here. tt))

pub each_mapped : {A B : Type 0} (P : B → Type 0) (f : A → B) (xs : List A) → AllByRecursion (λ x. P (f x)) xs → AllByRecursion P (map f xs)
each_mapped P f xs h = all_map P (λ x. P (f x)) f xs (λ x k. k) h

-- of those that pass a test
pub each_passed : {A : Type 0} (P : A → Type 0) (q : A → Bool) (xs : List A) → AllByRecursion (λ x. q x ≡ true → P x) xs → AllByRecursion P (filter q xs)
each_passed P q [] h = tt
each_passed {A} P q (x ∷ xs) h =
    let rest = each_passed P q xs h.1 in
    cond_both (q x) (x ∷ filter q xs) (filter q xs) (λ (ys : List A). AllByRecursion P ys) (λ e. (h.0 e, rest)) (λ e. rest)

-- ---- what is found

-- what is found of elements that all have a property has it
pub found_of : {A : Type 0} (P : A → Type 0) (p : A → Bool) (xs : List A) (x : A) → AllByRecursion P xs → find p xs ≡ Some x → P x
found_of P p [] x h e = absurd cc
found_of {A} P p (y ∷ ys) x h e = cases (λ k. found_of P p ys x h.1 k) (p y) e
  where
    cases : (find p ys ≡ Some x → P x) → (b : Bool) → cond b (Some y) (find p ys) ≡ Some x → P x
    cases more true k = subst P (same_Some y x k) h.0
    cases more false k = more k

-- ---- devices

-- what is found is one of them
pub found_contained : (p : Dev → Bool) (live : List Dev) (d : Dev) → find p live ≡ Some d → Contains live d
found_contained p live d e = found_of (Contains live) p live d (recursion_from_All (Contains live) live (All-contains_itself live)) e

-- what is found from the end is one of them too
pub all_reversed : {A : Type 0} (P : A → Type 0) (xs : List A) → AllByRecursion P xs → AllByRecursion P (reverse xs)
all_reversed P [] h = tt
all_reversed P (x ∷ xs) h = rw (reverse-append (x ∷ []) xs) (all_snoc P (reverse xs) x (all_reversed P xs h.1) h.0)

pub found_from_end : (p : Dev → Bool) (live : List Dev) (d : Dev) → find p (reverse live) ≡ Some d → Contains live d
found_from_end p live d e =
    found_of (Contains live) p (reverse live) d (all_reversed (Contains live) live (recursion_from_All (Contains live) live (All-contains_itself live))) e

-- a device of the list is live
pub contained_live : (live : List Dev) (d : Dev) → Contains live d → is_live live d.serial ≡ true
contained_live live d here = list_any_at (λ e. e.serial == d.serial) live here.0 d here.1 (eq-eqb (get_or live here.0 d).serial d.serial (ap (λ (e : Dev). e.serial) here.2))

-- and what is live is one of the list
pub live_contained : (live : List Dev) (s : ℕ) → is_live live s ≡ true → (d : Dev) × Contains live d × (d.serial ≡ s)
live_contained live s h =
    let any = Any-from_list_any (λ d. d.serial == s) live h in
    (any.1, (any.0, any.2, any.3), eqb-true any.1.serial s any.4)

-- of two places the earlier one differs from the later one
pub later_at : {A : Type 0} (R : A → A → Type 0) (xs : List A) (i j : ℕ) (d e : A) → EachLater R xs → i < j → j < length xs → R (get_or xs i d) (get_or xs j e)
later_at R [] i j d e h lt within = absurd (omega arith)
later_at R (x ∷ xs) i zero d e h lt within = absurd (omega arith)
later_at R (x ∷ xs) zero (suc j) d e h lt within = All-from_recursion (R x) xs h.0 j e (omega arith)
later_at R (x ∷ xs) (suc i) (suc j) d e h lt within = later_at R xs i j d e h.1 (omega arith) (omega arith)

-- two devices of one serial are one
pub one_serial : (s : Setup) (live : List Dev) (d e : Dev) → EachLater (IsApart s) live → Contains live d → Contains live e → d.serial ≡ e.serial → d ≡ e
one_serial s live d e apart (i, within, at) (j, inside, there) same = elim (cases_order i j) [
  | inl equal ↦ sym at ∙ ap (λ (n : ℕ). get_or live n d) equal ∙ get_or_default live j d e inside ∙ there
  | inr other ↦ elim other [
    | inl less ↦ let later : d.serial < e.serial = rw (at, there) at (later_at (IsApart s) live i j d e apart less inside).later in absurd (omega (arith, later, same))
    | inr more ↦ let later : e.serial < d.serial = rw (at, there) at (later_at (IsApart s) live j i e d apart more within).later in absurd (omega (arith, later, same))
  ]
]

-- of those that pass a test each still differs from all later ones
pub later_passed : {A : Type 0} (R : A → A → Type 0) (q : A → Bool) (xs : List A) → EachLater R xs → EachLater R (filter q xs)
later_passed R q [] h = tt
later_passed {A} R q (x ∷ xs) h =
    let rest = later_passed R q xs h.1 in
    cond_both (q x) (x ∷ filter q xs) (filter q xs) (λ (ys : List A). EachLater R ys) (λ e. (all_filter (R x) q xs h.0, rest)) (λ e. rest)

-- what one passes is still passed where each such one stays
pub any_passed : {A : Type 0} (p q : A → Bool) (xs : List A) → ((x : A) → p x ≡ true → q x ≡ true) → list_any p xs ≡ true → list_any p (filter q xs) ≡ true
any_passed p q [] stays h = h
any_passed {A} p q (x ∷ xs) stays h =
    let rest = λ (k : list_any p xs ≡ true). any_passed p q xs stays k in
    cond_both (q x) (x ∷ filter q xs) (filter q xs) (λ (ys : List A). list_any p ys ≡ true)
    (λ e. elim (or_cases (p x) (list_any p xs) h) [ inl here ↦ or_left (p x) (list_any p (filter q xs)) here | inr more ↦ or_right (p x) (list_any p (filter q xs)) (rest more) ])
    (λ e. elim (or_cases (p x) (list_any p xs) h) [ inl here ↦ clash (q x) (stays x here) e | inr more ↦ rest more ])

pub not_condemned : (d : Dev) → is_condemned d ≡ false → d.condemned ≡ None
not_condemned d h = cases d.condemned h
  where
    cases : (o : Option ℕ) → is_some o ≡ false → o ≡ None
    cases None e = refl
    cases (Some k) e = absurd cc
