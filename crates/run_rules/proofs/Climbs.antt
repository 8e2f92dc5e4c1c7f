-- Chains of parents that are followed towards a target: those that never meet it, and how far one was followed.
use Rattle.std.proofs.Common.{◌≡◌, ◌≢◌, ℕ, zero, suc, ◌+◌, ◌-◌, ◌<◌, ◌≤◌, true, false, ◌==◌, List, [], ◌∷◌, get_or, length, replicate, refl, sym, ap, subst, ◌∙◌, arith}
use Rattle.std.specs.List.{AllByRecursion, slice_set}
use Rattle.std.proofs.lemmas.Bool.{eqb-true}
use Rattle.run_rules.specs.declared.world.Dev.{Dev}
use Rattle.run_rules.specs.Chains.{AllMiss, NeverMeets}
use Rattle.run_rules.specs.World.{has, is_under, lineage, parent_of}
use Rattle.run_rules.proofs.Chains.{chain_ends, chain_found, chain_more, chain_nothing}

-- ---- chains that never meet the target

-- from a serial that is not the target on, the chain goes as from its parent
pub below_misses : (live : List Dev) (target s : ℕ) → s ≢ target → NeverMeets live target (parent_of live s) → NeverMeets live target s
below_misses live target s ne never zero = chain_nothing live 0 s target refl
below_misses live target s ne never (suc k) = chain_more live k s target ne ∙ never k

pub above_misses : (live : List Dev) (target s : ℕ) → NeverMeets live target s → NeverMeets live target (parent_of live s)
above_misses live target s never = λ k.
    let ne : s ≢ target = λ e. absurd (cc (never 1, chain_found live 1 s target (omega arith) e)) in
    sym (chain_more live k s target ne) ∙ never (suc k)

-- ---- what is kept

kept_with : (P : ℕ → Type 0) (xs : List ℕ) (i s : ℕ) → ((j : ℕ) → 0 < get_or xs j 0 → P (get_or xs j 0)) → P s
    → (j : ℕ) → 0 < get_or (slice_set xs i s) j 0 → P (get_or (slice_set xs i s) j 0)
kept_with P [] i s each here j lt = each j lt
kept_with P (x ∷ xs) zero s each here zero lt = here
kept_with P (x ∷ xs) zero s each here (suc j) lt = each (suc j) lt
kept_with P (x ∷ xs) (suc i) s each here zero lt = each zero lt
kept_with P (x ∷ xs) (suc i) s each here (suc j) lt = kept_with P xs i s (λ k. each (suc k)) here j lt

pub one_kept : (live : List Dev) (target : ℕ) (kept : List ℕ) (i s : ℕ) → AllMiss live target kept → NeverMeets live target s → AllMiss live target (slice_set kept i s)
one_kept live target kept i s each here = kept_with (NeverMeets live target) kept i s each here

-- a serial and its parent
pub two_kept : (live : List Dev) (target : ℕ) (kept : List ℕ) (i j s : ℕ) → AllMiss live target kept → NeverMeets live target s
    → AllMiss live target (slice_set (slice_set kept i s) j (parent_of live s))
two_kept live target kept i j s each never =
    one_kept live target (slice_set kept i s) j (parent_of live s) (one_kept live target kept i s each never) (above_misses live target s never)

zero_of_zeros : (n i : ℕ) → get_or {A = ℕ} (replicate n 0) i 0 ≡ 0
zero_of_zeros zero i = refl
zero_of_zeros (suc n) zero = refl
zero_of_zeros (suc n) (suc i) = zero_of_zeros n i

pub none_kept : (live : List Dev) (target n : ℕ) → AllMiss live target (replicate n 0)
none_kept live target n = λ i lt. absurd (omega (arith, lt, zero_of_zeros n i))

-- a serial that is kept
pub kept_misses : (live : List Dev) (target : ℕ) (kept : List ℕ) (i s : ℕ) → AllMiss live target kept → s ≢ 0 → (get_or kept i 0 == s) ≡ true → NeverMeets live target s
kept_misses live target kept i s each some e =
    let there : get_or kept i 0 ≡ s = eqb-true (get_or kept i 0) s e in
    subst (NeverMeets live target) there (each i (omega (arith, there, some)))

-- ---- how far a chain was followed

-- from the serial s on it was followed by so many levels, to the serial at
pub record IsClimbed (live : List Dev) (target s level at : ℕ) : Type 0 where
  pub left : has (lineage (length live - level) live at) target ≡ has (lineage (length live) live s) target
  pub never : NeverMeets live target at → NeverMeets live target s

pub climb_first : (live : List Dev) (target s : ℕ) → IsClimbed live target s 0 s
climb_first live target s = record { left = ap (λ k. has (lineage k live s) target) (omega arith); never = λ h. h }

pub climb_more : (live : List Dev) (target s level at : ℕ) → level < length live → at ≢ target → IsClimbed live target s level at → IsClimbed live target s (level + 1) (parent_of live at)
climb_more live target s level at lt ne so =
    let more : suc (length live - (level + 1)) ≡ length live - level = omega arith in
    record {
      left = sym (chain_more live (length live - (level + 1)) at target ne) ∙ ap (λ k. has (lineage k live at) target) more ∙ so.left;
      never = λ h. so.never (below_misses live target at ne h);
    }

pub climb_meets : (live : List Dev) (target s level at : ℕ) → level < length live → at ≡ target → IsClimbed live target s level at → is_under live target s ≡ true
unfolding is_under
climb_meets live target s level at lt is so = sym so.left ∙ chain_found live (length live - level) at target (omega arith) is

pub climb_ends : (live : List Dev) (target s level at : ℕ) → length live ≤ level → IsClimbed live target s level at → is_under live target s ≡ false
unfolding is_under
climb_ends live target s level at le so = sym so.left ∙ chain_nothing live (length live - level) at target (omega arith)

-- at the root
pub climb_root : (live : List Dev) (target s level at : ℕ) → AllByRecursion (λ d. 0 < d.serial) live → at ≢ target → at ≡ 0 → IsClimbed live target s level at → NeverMeets live target s
climb_root live target s level at above ne root so =
    let apart : 0 ≢ target = λ e. ne (root ∙ e) in
    so.never (subst (NeverMeets live target) (sym root) (λ k. chain_ends live k target above apart))

-- what never meets the target is not under it
pub misses_under : (live : List Dev) (target s : ℕ) → NeverMeets live target s → is_under live target s ≡ false
unfolding is_under
misses_under live target s never = never (length live)
