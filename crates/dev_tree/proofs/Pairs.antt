-- Two lists that go side by side.
use Rattle.std.proofs.Common.{◌≡◌, ℕ, zero, suc, ◌+◌, ◌<◌, Bool, true, false, cond, List, [], ◌∷◌, ◌++◌, length, get_or, drop, map, refl, ap, add-one, arith}
use Rattle.std.specs.Prelude.{filter}
use Rattle.std.specs.List.{zip}

zip_at : {X Y : Type 0} (xs : List X) (ys : List Y) (i : ℕ) (x : X) (y : Y) → i < length xs → length ys ≡ length xs
    → drop i (zip xs ys) ≡ (get_or xs i x, get_or ys i y) ∷ drop (suc i) (zip xs ys)
zip_at [] ys i x y lt long = absurd (omega arith)
zip_at (a ∷ xs) [] i x y lt long = absurd (omega arith)
zip_at (a ∷ xs) (b ∷ ys) zero x y lt long = refl
zip_at (a ∷ xs) (b ∷ ys) (suc i) x y lt long = zip_at xs ys i x y (omega arith) (omega arith)

-- the pair at a place
pub zip_more : {X Y : Type 0} (xs : List X) (ys : List Y) (i : ℕ) (x : X) (y : Y) → i < length xs → length ys ≡ length xs
    → drop i (zip xs ys) ≡ (get_or xs i x, get_or ys i y) ∷ drop (i + 1) (zip xs ys)
zip_more xs ys i x y lt long = rw add-one (zip_at xs ys i x y lt long)

-- one pair more
pub zip_snoc : {X Y : Type 0} (xs : List X) (ys : List Y) (x : X) (y : Y) → length ys ≡ length xs → zip (xs ++ x ∷ []) (ys ++ y ∷ []) ≡ zip xs ys ++ (x, y) ∷ []
zip_snoc [] [] x y long = refl
zip_snoc [] (b ∷ ys) x y long = absurd (omega arith)
zip_snoc (a ∷ xs) [] x y long = absurd (omega arith)
zip_snoc (a ∷ xs) (b ∷ ys) x y long = ap (λ zs. (a, b) ∷ zs) (zip_snoc xs ys x y (omega arith))

-- pairs are those of their parts
pub zip_parts : {X Y : Type 0} (ps : List (X × Y)) → zip (map (λ p. p.0) ps) (map (λ p. p.1) ps) ≡ ps
zip_parts [] = refl
zip_parts (p ∷ ps) = ap (λ qs. (p.0, p.1) ∷ qs) (zip_parts ps)

-- what is kept by the first part
pub filter_firsts : {X Y : Type 0} (test : X → Bool) (xs : List X) (ys : List Y) → length ys ≡ length xs → map (λ p. p.0) (filter (λ p. test p.0) (zip xs ys)) ≡ filter test xs
filter_firsts test [] ys long = refl
filter_firsts test (x ∷ xs) [] long = absurd (omega arith)
filter_firsts {X} {Y} test (x ∷ xs) (y ∷ ys) long = cases (test x) (filter_firsts test xs ys (omega arith))
  where
    cases : (b : Bool) → map (λ p. p.0) (filter (λ p. test p.0) (zip xs ys)) ≡ filter test xs
        → map (λ p. p.0) (cond b ((x, y) ∷ filter (λ p. test p.0) (zip xs ys)) (filter (λ p. test p.0) (zip xs ys))) ≡ cond b (x ∷ filter test xs) (filter test xs)
    cases true e = ap (λ zs. x ∷ zs) e
    cases false e = e

pub length_parts : {X Y : Type 0} (ps : List (X × Y)) → length (map (λ p. p.1) ps) ≡ length (map (λ p. p.0) ps)
length_parts [] = refl
length_parts (p ∷ ps) = omega (arith, length_parts ps)
