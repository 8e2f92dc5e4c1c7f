-- What a test that gives something tells, and what follows where it gives nothing.
use Rattle.std.proofs.Common.{◌≡◌, ℕ, Bool, true, false, Option, Some, None, refl}
use Rattle.std.specs.Prelude.{IfSome}
use Rattle.config_rules.specs.Form.{given, ◌or◌}

-- what is given has a property if it has it where the test passes
pub if_given : {A : Type 0} (P : A → Type 0) (b : Bool) (x : A) → (b ≡ true → P x) → IfSome (given b x) P
if_given P true x h = h refl
if_given P false x h = tt

-- where neither gives a code, the test fails and the rest gives none
pub no_code : (test : Bool) (code : ℕ) (rest : Option ℕ) → (given test code or rest) ≡ None → (test ≡ false) × (rest ≡ None)
no_code true code rest h = absurd (cc)
no_code false code rest h = (refl, h)

-- the same of the last test
pub no_last : (test : Bool) (code : ℕ) → given test code ≡ None → test ≡ false
no_last true code h = absurd (cc)
no_last false code h = refl

-- the same of an option that stands first
pub no_first : {A : Type 0} (o rest : Option A) → (o or rest) ≡ None → (o ≡ None) × (rest ≡ None)
no_first None rest h = (refl, h)
no_first (Some x) rest h = absurd (cc)
