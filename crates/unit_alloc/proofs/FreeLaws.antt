-- Where at most 1,024 numbers pass a test, one of 1,025 fails it.
use Rattle.std.proofs.Common.{◌≡◌, ℕ, zero, suc, ◌+◌, ◌<◌, ◌≤◌, Bool, true, false, [], ◌∷◌, cond, inl, inr, refl, arith}
use Rattle.std.specs.List.{count_by}
use Rattle.std.proofs.lemmas.Bool.{cases_lt}
use Rattle.std.proofs.lemmas.List.Sums.{sum_by-append}
use Rattle.cf_types.specs.Numbers.{below}

abbrev one_if : Bool → ℕ
one_if b = cond b 1 0

counts_one : (b : Bool) → b ≡ true → one_if b ≡ 1
counts_one true e = refl
counts_one false e = absurd cc

-- where all numbers from the first one on up to a bound pass, so many do
pub all_pass : (test : ℕ → Bool) (first n : ℕ) → ((k : ℕ) → first ≤ k → k < n → test k ≡ true) → n ≤ count_by test (below n) + first
all_pass test first zero h = omega arith
all_pass test first (suc n) h =
    let more : count_by test (below (suc n)) ≡ count_by test (below n) + count_by test (n ∷ []) = sum_by-append (λ k. cond (test k) 1 0) (below n) (n ∷ []) in
    elim (cases_lt n first) [
      | inl less ↦ omega (arith, less)
      | inr from ↦
          omega (arith, more, counts_one (test n) (h n from (omega arith)), all_pass test first n (λ k low high. h k low (omega arith)))
    ]
