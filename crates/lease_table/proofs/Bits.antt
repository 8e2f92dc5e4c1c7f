-- Words that differ in one bit.
use Rattle.std.proofs.Common.{◌≡◌, ◌≢◌, ℕ, ◌+◌, ◌-◌, ◌*◌, ◌/◌, ◌%◌, ◌^◌, ◌<◌, ◌≤◌, sym, ap, ◌∙◌, arith, div-add-mod', lt_of_not-le}
use Rattle.std.specs.Prelude.{◌==◌, bit_or, bit_and, max, min}
use Rattle.lease_table.specs.Words.{is_holder, said}
use Rattle.std.specs.Int.{bit_at}
use Rattle.std.proofs.lemmas.Nat.Bits.{bit_at_or, bit_at_and, bit_at-pow_same, bit_at-pow_other, same_from_bits, bit_at-lt, bit_at_cat_low, bit_at_cat_high, bit_at_above, bit_at-zero}
use native.Mathlib.Decide.{dec_le}
use Rattle.std.proofs.Math.Nat.{div-div-eq-div-mul, max-zero}
use Rattle.std.proofs.lemmas.Nat.{pow-add}

-- the bits of the part above the first k bits
pub bit_at_high : (k n i : ℕ) → bit_at (n / 2 ^ k) i ≡ bit_at n (k + i)
bit_at_high k n i = ap (λ (z : ℕ). z % 2) (div-div-eq-div-mul n (2 ^ k) (2 ^ i) ∙ ap (λ (z : ℕ). n / z) (sym (pow-add 2 k i)))

pub same_high : (a b k : ℕ) → ((i : ℕ) → k ≤ i → bit_at a i ≡ bit_at b i) → a / 2 ^ k ≡ b / 2 ^ k
same_high a b k same = same_from_bits (a / 2 ^ k) (b / 2 ^ k) (λ i. bit_at_high k a i ∙ (same (k + i) (omega arith) ∙ sym (bit_at_high k b i)))

pub or_other : (w k b : ℕ) → b ≢ k → bit_at (bit_or w (2 ^ k)) b ≡ bit_at w b
or_other w k b other = bit_at_or w (2 ^ k) b ∙ (ap (λ (z : ℕ). max (bit_at w b) z) (bit_at-pow_other k b other) ∙ max-zero (bit_at w b))

pub or_same : (w k : ℕ) → bit_at (bit_or w (2 ^ k)) k ≡ 1
or_same w k = bit_at_or w (2 ^ k) k ∙ (ap (λ (z : ℕ). max (bit_at w k) z) (bit_at-pow_same k) ∙ (let l = bit_at-lt w k in omega arith))

pub bit_at_low : (n k i : ℕ) → i < k → bit_at (n % 2 ^ k) i ≡ bit_at n i
bit_at_low n k i l = sym (bit_at_cat_low (n / 2 ^ k) k (n % 2 ^ k) i l) ∙ ap (λ (z : ℕ). bit_at z i) (div-add-mod' n (2 ^ k))

pub and_own : (w k b : ℕ) → bit_at k b ≡ 0 → bit_at (bit_and w k) b ≡ 0
and_own w k b off = bit_at_and w k b ∙ (ap (λ (z : ℕ). min (bit_at w b) z) off ∙ (let l = bit_at-lt w b in omega arith))

pub and_other : (w k b : ℕ) → w < 18446744073709551616 → (b < 64 → bit_at k b ≡ 1) → bit_at (bit_and w k) b ≡ bit_at w b
and_other w k b small on = bit_at_and w k b ∙ either_way (dec_le 64 b)
  where
    either_way : Dec (64 ≤ b) → min (bit_at w b) (bit_at k b) ≡ bit_at w b
    either_way (yes above) = let z = bit_at_above w 64 b small above in omega arith
    either_way (no below) = let o = on (lt_of_not-le below) in let l = bit_at-lt w b in omega arith

zero_added : (m k : ℕ) → m * 2 ^ k + 0 ≡ m * 2 ^ k
zero_added m k = omega arith

pub shifted_low : (m k b : ℕ) → b < k → bit_at (m * 2 ^ k) b ≡ 0
shifted_low m k b l = ap (λ (z : ℕ). bit_at z b) (sym (zero_added m k)) ∙ (bit_at_cat_low m k 0 b l ∙ bit_at-zero b)

pub shifted_high : (m k : ℕ) → 0 < 2 ^ k → m * 2 ^ k / 2 ^ k ≡ m
shifted_high m k some = same_from_bits (m * 2 ^ k / 2 ^ k) m (λ b. bit_at_high k (m * 2 ^ k) b ∙ (ap (λ (z : ℕ). bit_at z (k + b)) (sym (zero_added m k)) ∙ (bit_at_cat_high m k 0 (k + b) some (omega arith) ∙ ap (bit_at m) (back k b))))
  where
    back : (k b : ℕ) → (k + b) - k ≡ b
    back k b = omega arith

pub none_low : (w k b : ℕ) → w % 2 ^ k ≡ 0 → b < k → bit_at w b ≡ 0
none_low w k b clear l = sym (bit_at_low w k b l) ∙ (ap (λ (z : ℕ). bit_at z b) clear ∙ bit_at-zero b)

-- who is a holder by the number of the word
pub holder_bit : (n k : ℕ) → k ≤ 16 → is_holder (said n) k ≡ (bit_at n (k - 1) == 1)
holder_bit n k small = ap (λ (z : ℕ). z == 1) (bit_at_low n 16 (k - 1) (omega arith))
