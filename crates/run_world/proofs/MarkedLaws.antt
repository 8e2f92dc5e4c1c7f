-- The marks of the spots in a list, with one spot more or one less.
use Rattle.std.proofs.Common.{◌≡◌, ℕ, Bool, true, false, not, ◌||◌, ◌==◌, cond, List, [], ◌∷◌, ◌++◌, filter, slice_index_or, refl, sym, ◌∙◌, ap}
use Rattle.std.proofs.Math.Bool.{or-false}
use Rattle.std.proofs.lemmas.Bool.{eqb-true}
use Rattle.std.proofs.lemmas.List.Folds.{list_any-append}
use Rattle.run_rules.specs.World.{has}
use Rattle.run_world.specs.Marked.{AreMarked}

-- each mark is as before, but that of one spot has this value
abbrev pub IsSet : List Bool → List Bool → ℕ → Bool → Type 0
IsSet old new spot value = (x : ℕ) → slice_index_or new x false ≡ cond (spot == x) value (slice_index_or old x false)

-- ---- one spot more

more : (same had : Bool) → cond same true had ≡ (same || had)
more true had = refl
more false had = refl

or_swap : (a b : Bool) → (a || b) ≡ (b || a)
or_swap true true = refl
or_swap true false = refl
or_swap false true = refl
or_swap false false = refl

pub marked_first : (xs : List ℕ) (old new : List Bool) (spot : ℕ) → AreMarked xs old → IsSet old new spot true → AreMarked (spot ∷ xs) new
marked_first xs old new spot are set = λ x. set x ∙ ap (cond (spot == x) true) (are x) ∙ more (spot == x) (has xs x)

pub marked_last : (xs : List ℕ) (old new : List Bool) (spot : ℕ) → AreMarked xs old → IsSet old new spot true → AreMarked (xs ++ spot ∷ []) new
marked_last xs old new spot are set = λ x.
    marked_first xs old new spot are set x ∙ or_swap (spot == x) (has xs x) ∙ ap (λ b. has xs x || b) (sym (or-false (spot == x)))
    ∙ sym (list_any-append (λ y. y == x) xs (spot ∷ []))

-- ---- one spot less

other : (s y x : ℕ) → (y == s) ≡ true → cond (s == x) false (y == x) ≡ false
other s y x e = let same : y ≡ s = eqb-true y s e in rw same (by (s == x))
  where
    by : (b : Bool) → cond b false b ≡ false
    by true = refl
    by false = refl

has_less : (xs : List ℕ) (s x : ℕ) → has (filter (λ y. not (y == s)) xs) x ≡ cond (s == x) false (has xs x)
has_less [] s x = none (s == x)
  where
    none : (b : Bool) → false ≡ cond b false false
    none true = refl
    none false = refl
has_less (y ∷ ys) s x = cases (has_less ys s x) (y == s) refl
  where
    split : (b c d : Bool) → cond b false c ≡ false → cond b false d ≡ cond b false (c || d)
    split true c d e = refl
    split false true d e = absurd cc
    split false false d e = refl

    kept : (b c d : Bool) → (b ≡ true → c ≡ false) → (c || cond b false d) ≡ cond b false (c || d)
    kept true true d h = let no : true ≡ false = h refl in absurd cc
    kept true false d h = refl
    kept false c d h = refl

    apart : (y == s) ≡ false → (s == x) ≡ true → (y == x) ≡ false
    apart is same = let e : s ≡ x = eqb-true s x same in ap (λ n. y == n) (sym e) ∙ is

    cases : has (filter (λ y. not (y == s)) ys) x ≡ cond (s == x) false (has ys x) → (b : Bool) → (y == s) ≡ b → has (cond (not b) (y ∷ filter (λ y. not (y == s)) ys) (filter (λ y. not (y == s)) ys)) x ≡ cond (s == x) false (y == x || has ys x)
    cases rest true is = rest ∙ split (s == x) (y == x) (has ys x) (other s y x is)
    cases rest false is = ap (λ b. y == x || b) rest ∙ kept (s == x) (y == x) (has ys x) (apart is)

pub marked_less : (xs : List ℕ) (old new : List Bool) (spot : ℕ) → AreMarked xs old → IsSet old new spot false → AreMarked (filter (λ y. not (y == spot)) xs) new
marked_less xs old new spot are set = λ x. set x ∙ ap (cond (spot == x) false) (are x) ∙ sym (has_less xs spot x)

-- a list without the spot stays
pub none_less : (xs : List ℕ) (s : ℕ) → has xs s ≡ false → xs ≡ filter (λ y. not (y == s)) xs
none_less [] s h = refl
none_less (y ∷ ys) s h = cases (λ k. none_less ys s k) (y == s) refl h
  where
    cases : (has ys s ≡ false → ys ≡ filter (λ y. not (y == s)) ys) → (b : Bool) → (y == s) ≡ b → (b || has ys s) ≡ false → y ∷ ys ≡ cond (not b) (y ∷ filter (λ y. not (y == s)) ys) (filter (λ y. not (y == s)) ys)
    cases rest true is k = absurd cc
    cases rest false is k = ap (λ zs. y ∷ zs) (rest k)
