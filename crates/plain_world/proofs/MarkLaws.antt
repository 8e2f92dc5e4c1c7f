-- The marks of a list of spots, with one spot more and with one less.
use Rattle.std.proofs.Common.{◌≡◌, ℕ, Bool, true, false, not, ◌||◌, ◌==◌, cond, List, [], ◌∷◌, ◌++◌, filter, slice_index_or, refl, sym, ◌∙◌, ap}
use Rattle.std.specs.Prelude.{if◌then◌else◌}
use Rattle.std.proofs.Math.Bool.{or-false}
use Rattle.std.proofs.lemmas.Bool.{eqb-true}
use Rattle.std.proofs.lemmas.List.Folds.{list_any-append}
use Rattle.run_rules.specs.World.{has}
use Rattle.plain_world.specs.Marks.{AreMarked}

-- the marks with that of one spot set
abbrev pub IsSet : List Bool → List Bool → ℕ → Bool → Type 0
IsSet old new spot value = (x : ℕ) → slice_index_or new x false ≡ (if spot == x then value else slice_index_or old x false)

set_or : (same had : Bool) → (if same then true else had) ≡ (same || had)
set_or true had = refl
set_or false had = refl

swapped : (a b : Bool) → (a || b) ≡ (b || a)
swapped true true = refl
swapped true false = refl
swapped false true = refl
swapped false false = refl

pub first_marked : (xs : List ℕ) (old new : List Bool) (spot : ℕ) → AreMarked xs old → IsSet old new spot true → AreMarked (spot ∷ xs) new
first_marked xs old new spot are set = λ x. set x ∙ ap (λ b. if spot == x then true else b) (are x) ∙ set_or (spot == x) (has xs x)

pub last_marked : (xs : List ℕ) (old new : List Bool) (spot : ℕ) → AreMarked xs old → IsSet old new spot true → AreMarked (xs ++ spot ∷ []) new
last_marked xs old new spot are set = λ x.
    first_marked xs old new spot are set x ∙ swapped (spot == x) (has xs x) ∙ ap (λ b. has xs x || b) (sym (or-false (spot == x)))
    ∙ sym (list_any-append (λ y. y == x) xs (spot ∷ []))

-- ---- one spot less

-- a spot that is taken out is not the one that is asked for, or is not found
has_less : (xs : List ℕ) (s x : ℕ) → (if s == x then false else has xs x) ≡ has (filter (λ y. not (y == s)) xs) x
has_less [] s x = none (s == x)
  where
    none : (b : Bool) → (if b then false else false) ≡ false
    none true = refl
    none false = refl
has_less (y ∷ ys) s x = cases (y == s) refl (has_less ys s x)
  where
    gone : (b c d r : Bool) → (c ≡ true → b ≡ true) → (if b then false else d) ≡ r → (if b then false else (c || d)) ≡ r
    gone true c d r h e = e
    gone false true d r h e = let no : false ≡ true = h refl in absurd cc
    gone false false d r h e = e

    kept : (b c d r : Bool) → (b ≡ true → c ≡ false) → (if b then false else d) ≡ r → (if b then false else (c || d)) ≡ (c || r)
    kept true true d r h e = let no : true ≡ false = h refl in absurd cc
    kept true false d r h e = e
    kept false true d r h e = refl
    kept false false d r h e = e

    same : (y == s) ≡ true → (y == x) ≡ true → (s == x) ≡ true
    same e f = let at : y ≡ s = eqb-true y s e in ap (λ n. n == x) (sym at) ∙ f

    apart : (y == s) ≡ false → (s == x) ≡ true → (y == x) ≡ false
    apart e f = let at : s ≡ x = eqb-true s x f in ap (λ n. y == n) (sym at) ∙ e

    cases : (b : Bool) → (y == s) ≡ b → (if s == x then false else has ys x) ≡ has (filter (λ y. not (y == s)) ys) x
        → (if s == x then false else (y == x || has ys x)) ≡ has (cond (not b) (y ∷ filter (λ y. not (y == s)) ys) (filter (λ y. not (y == s)) ys)) x
    cases true e rest = gone (s == x) (y == x) (has ys x) _ (same e) rest
    cases false e rest = kept (s == x) (y == x) (has ys x) _ (apart e) rest

pub marked_less : (xs : List ℕ) (old new : List Bool) (spot : ℕ) → AreMarked xs old → IsSet old new spot false → AreMarked (filter (λ y. not (y == spot)) xs) new
marked_less xs old new spot are set = λ x. set x ∙ ap (λ b. if spot == x then false else b) (are x) ∙ has_less xs spot x
