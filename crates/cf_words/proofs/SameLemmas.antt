-- Texts of other lengths are not the same.
use Rattle.std.proofs.Common.{◌≡◌, ℕ, ◌&&◌, ◌==◌, false, suc, List, [], ◌∷◌, length, refl, ap, sym, ◌∙◌, arith}
use Rattle.std.specs.Prelude.{bytes_eq}
use Rattle.std.proofs.lemmas.Bool.Decides.{nat_tests}
use Rattle.std.proofs.Math.Bool.{and-false}

eq_next : (n m : ℕ) → (suc n == suc m) ≡ (n == m)
eq_next n m = grind (arith, nat_tests)

pub long_differs : (xs ys : List ℕ) → (length xs == length ys) ≡ false → bytes_eq xs ys ≡ false
long_differs [] [] h = absurd (cc)
long_differs [] (y ∷ ys) h = refl
long_differs (x ∷ xs) [] h = refl
long_differs (x ∷ xs) (y ∷ ys) h =
    ap (λ b. (x == y) && b) (long_differs xs ys (sym (eq_next (length xs) (length ys)) ∙ h)) ∙ and-false (x == y)
