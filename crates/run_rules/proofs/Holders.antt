-- The mask of those who hold a device: bit k-1 is set exactly where caller k holds it.
use Rattle.std.proofs.Common.{◌≡◌, ℕ, zero, suc, ◌+◌, ◌-◌, ◌*◌, lit<, pow-suc, ◌^◌, ◌<◌, Bool, true, false, List, [], ◌∷◌, cond, sum_by, refl, sym, ap, ◌∙◌, inl, inr, arith}
use Rattle.std.specs.Int.{bit_at}
use Rattle.std.proofs.lemmas.Bool.{cases_lt}
use Rattle.std.proofs.lemmas.List.Sums.{sum_by-append}
use Rattle.std.proofs.lemmas.Nat.Bits.{bit_at_cat_low, bit_at_cat_high}
use Rattle.cf_types.specs.Numbers.{below}
use Rattle.run_rules.specs.declared.world.Ref.{Ref}
use Rattle.run_rules.specs.World.{holds_in}
use Rattle.run_rules.specs.References.{holder_mask}

-- the number whose bits below n are those that pass
abbrev bits_of : (ℕ → Bool) → ℕ → ℕ
bits_of p n = sum_by (λ i. cond (p i) (2 ^ i) 0) (below n)

abbrev one_if : Bool → ℕ
one_if b = cond b 1 0

next_bit : (p : ℕ → Bool) (n : ℕ) → bits_of p (suc n) ≡ one_if (p n) * 2 ^ n + bits_of p n
next_bit p n = sum_by-append (λ i. cond (p i) (2 ^ i) 0) (below n) (n ∷ []) ∙ last (p n) (bits_of p n)
  where
    last : (b : Bool) (m : ℕ) → m + (0 + cond b (2 ^ n) 0) ≡ one_if b * 2 ^ n + m
    last true m = omega arith
    last false m = omega arith

bits_fit : (p : ℕ → Bool) (n : ℕ) → bits_of p n < 2 ^ n
bits_fit p zero = lit< tt
bits_fit p (suc n) = within (p n) (bits_of p n) (bits_of p (suc n)) (next_bit p n) (bits_fit p n)
  where
    within : (b : Bool) (m k : ℕ) → k ≡ one_if b * 2 ^ n + m → m < 2 ^ n → k < 2 ^ suc n
    within true m k e lt = omega (arith, pow-suc 2 n)
    within false m k e lt = omega (arith, pow-suc 2 n)

bit_is : (p : ℕ → Bool) (n j : ℕ) → j < n → bit_at (bits_of p n) j ≡ one_if (p j)
bit_is p zero j lt = absurd (omega arith)
bit_is p (suc n) j lt =
    ap (λ m. bit_at m j) (next_bit p n)
    ∙ elim (cases_lt j n) [
      | inl less ↦ bit_at_cat_low (one_if (p n)) n (bits_of p n) j less ∙ bit_is p n j less
      | inr from ↦
          let same : j ≡ n = omega arith in
          let none : j - n ≡ 0 = omega arith in
          bit_at_cat_high (one_if (p n)) n (bits_of p n) j (bits_fit p n) from ∙ ap (bit_at (one_if (p n))) none ∙ lowest (p n) ∙ ap (λ i. one_if (p i)) (sym same)
    ]
  where
    lowest : (b : Bool) → bit_at (one_if b) 0 ≡ one_if b
    lowest true = refl
    lowest false = refl

pub holders_fit : (refs : List Ref) (s : ℕ) → holder_mask refs s < 2 ^ 16
unfolding holder_mask
holders_fit refs s = bits_fit (λ i. holds_in refs (i + 1) s) 16

pub bit_of_holder : (refs : List Ref) (s i : ℕ) → i < 16 → bit_at (holder_mask refs s) i ≡ cond (holds_in refs (i + 1) s) 1 0
unfolding holder_mask
bit_of_holder refs s i lt = bit_is (λ j. holds_in refs (j + 1) s) 16 i lt
