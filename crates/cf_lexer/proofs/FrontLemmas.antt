use Rattle.std.proofs.Common.{◌≡◌, ℕ, zero, suc, ◌+◌, ◌≤◌, Bool, true, false, cond, List, [], ◌∷◌, length, take, drop, refl, ap, sym, ◌∙◌, arith, length-drop}
use Rattle.std.specs.Prelude.{min}
use Rattle.std.specs.List.{prefix_len}
use Rattle.std.proofs.Math.Nat.{min-le_right}
use Rattle.std.proofs.lemmas.List.{drop-drop}
use Rattle.std.proofs.lemmas.List.Folds.{length-prefix_len}
use Rattle.std.proofs.lemmas.List.Sums.{prefix_len-le-length}
use Rattle.config_rules.specs.Cut.{is_chunk_byte}

-- how long a chunk is
pub length_chunk : (c : ℕ) (cs : List ℕ) → length (c ∷ take (prefix_len is_chunk_byte cs) cs) ≡ prefix_len is_chunk_byte cs + 1
length_chunk c cs = omega (arith, length-prefix_len is_chunk_byte cs)

-- what is left of a run behind some of its bytes
pub run_behind : (p : ℕ → Bool) (n : ℕ) (cs : List ℕ) → n ≤ prefix_len p cs → n + prefix_len p (drop n cs) ≡ prefix_len p cs
run_behind p zero cs h = omega arith
run_behind p (suc n) [] h = absurd (omega (arith, h))
run_behind p (suc n) (c ∷ cs) h = by_test (p c) refl (run_behind p n cs)
  where
    by_test : (b : Bool) → p c ≡ b → (n ≤ prefix_len p cs → n + prefix_len p (drop n cs) ≡ prefix_len p cs) → suc n + prefix_len p (drop n cs) ≡ prefix_len p (c ∷ cs)
    by_test true e so =
        let more : prefix_len p (c ∷ cs) ≡ 1 + prefix_len p cs = ap (λ b. cond b (1 + prefix_len p cs) 0) e in
        let rest : n + prefix_len p (drop n cs) ≡ prefix_len p cs = so (omega (arith, h, more)) in
        omega (arith, more, rest)
    by_test false e so = absurd (omega (arith, h, ap (λ b. cond b (1 + prefix_len p cs) 0) e))

-- the first four of them, or fewer, were passed
pub four_further : (p : ℕ → Bool) (start end more : ℕ) (text : List ℕ) → end ≤ length text → more ≡ min 4 (prefix_len p (drop end text))
    → end + prefix_len p (drop end text) ≡ start + prefix_len p (drop start text)
    → (end + more ≤ length text) × (end + more + prefix_len p (drop (end + more) text) ≡ start + prefix_len p (drop start text))
four_further p start end more text within few so_far =
    let most : more ≤ prefix_len p (drop end text) = omega (arith, few, min-le_right 4 (prefix_len p (drop end text))) in
    let there : prefix_len p (drop end text) ≤ length (drop end text) = prefix_len-le-length p (drop end text) in
    let behind : more + prefix_len p (drop (end + more) text) ≡ prefix_len p (drop end text) =
    ap (λ (xs : List ℕ). more + prefix_len p xs) (sym (drop-drop more end text)) ∙ run_behind p more (drop end text) most in (
      omega (arith, most, there, length-drop end text, within),
      omega (arith, so_far, behind),
    )
