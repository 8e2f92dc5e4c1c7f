-- The texts of the two commonest numbers.
use Rattle.std.proofs.Common.{◌≡◌, ℕ, ℤ, pos, [], ◌∷◌, ap}
use Rattle.std.specs.Prelude.{negsuc}
use Rattle.std.specs.Fmt.{decimal, digits, signed_decimal}

pub zero_decimal : (n : ℕ) → n ≡ 0 → decimal n ≡ 48 ∷ []
unfolding digits
zero_decimal n e = ap decimal e

pub zero_text : (v : ℤ) → v ≡ pos 0 → signed_decimal v ≡ 48 ∷ []
unfolding digits
zero_text v e = ap signed_decimal e

pub minus_one_text : (v : ℤ) → v ≡ negsuc 0 → signed_decimal v ≡ 45 ∷ 49 ∷ []
unfolding digits
minus_one_text v e = ap signed_decimal e
