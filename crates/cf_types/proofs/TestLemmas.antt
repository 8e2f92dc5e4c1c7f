-- Tests whose answers are the same, and answers that can't both come.
use Rattle.std.proofs.Common.{◌≡◌, ℕ, Bool, true, false, refl, sym, arith}
use Rattle.std.specs.Prelude.{◌==◌}
use Rattle.std.proofs.lemmas.Bool.{eq-eqb}
use Rattle.std.proofs.lemmas.Bool.Decides.{nat_tests}

pub same_answer : (a b : Bool) → (a ≡ true → b ≡ true) → (b ≡ true → a ≡ true) → a ≡ b
same_answer true b f g = sym (f refl)
same_answer false true f g = g refl
same_answer false false f g = refl

pub equal_itself : (n : ℕ) → (n == n) ≡ true
equal_itself n = eq-eqb n n refl

pub equal_turned : (a b : ℕ) → (a == b) ≡ (b == a)
equal_turned a b = grind (arith, nat_tests)

pub clash : {A : Type 0} (b : Bool) → b ≡ true → b ≡ false → A
clash b t f = absurd (cc)
