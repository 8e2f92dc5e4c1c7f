-- Sums over the callers, of which one alone changes.
use Rattle.std.proofs.Common.{◌≡◌, ◌≢◌, ◌<◌, ℕ, zero, suc, ◌+◌, ◌==◌, Bool, true, false, refl, ap, arith, eqb-true, eq-eqb}
use Rattle.run_sound.proofs.Callers.{clash}
use Rattle.run_sound.proofs.Spots.{total, total_suc}

total_same : (f g : ℕ → ℕ) (n : ℕ) → ((j : ℕ) → j < n → g j ≡ f j) → total g n ≡ total f n
total_same f g zero same = refl
total_same f g (suc n) same = omega (arith, total_suc f n, total_suc g n, total_same f g n (λ j lt. same j (omega (arith, lt))), same n (omega arith))

-- where one alone changes, the sum changes as it does
pub total_one : (f g : ℕ → ℕ) (n k : ℕ) → k < n → ((j : ℕ) → j ≢ k → g j ≡ f j) → total g n + f k ≡ total f n + g k
total_one f g zero k lt same = absurd (omega (arith, lt))
total_one f g (suc n) k lt same = cases (λ less. total_one f g n k less same) (n == k) refl
  where
    smaller : n ≢ k → k < n
    smaller other = grind (arith, lt, other)

    cases : (k < n → total g n + f k ≡ total f n + g k) → (b : Bool) → (n == k) ≡ b → total g (suc n) + f k ≡ total f (suc n) + g k
    cases rest true e =
        let is : n ≡ k = eqb-true n k e in
        let before : total g n ≡ total f n = total_same f g n (λ j less. same j (λ at. omega (arith, less, at, is))) in
        let gs : g n ≡ g k = ap g is in
        let fs : f n ≡ f k = ap f is in
        omega (arith, total_suc f n, total_suc g n, before, gs, fs)
    cases rest false e =
        let other : n ≢ k = λ at. clash (n == k) (eq-eqb n k at) e in
        omega (arith, total_suc f n, total_suc g n, rest (smaller other), same n other)

-- from the first one on
pub total_first : (f : ℕ → ℕ) (n : ℕ) → total f (suc n) ≡ f 0 + total (λ k. f (suc k)) n
total_first f zero = omega (arith, total_suc f 0)
total_first f (suc n) = omega (arith, total_suc f (suc n), total_suc (λ k. f (suc k)) n, total_first f n)

pub total_more : (f : ℕ → ℕ) (n : ℕ) → total (λ k. f k + 1) n ≡ total f n + n
total_more f zero = refl
total_more f (suc n) = omega (arith, total_suc f n, total_suc (λ k. f k + 1) n, total_more f n)

pub total_none : (f : ℕ → ℕ) (n : ℕ) → ((k : ℕ) → f k ≡ 0) → total f n ≡ 0
total_none f zero h = refl
total_none f (suc n) h = omega (arith, total_suc f n, total_none f n h, h n)
