-- Chains of parents, step by step.
use Rattle.std.proofs.Common.{◌≡◌, ◌≢◌, ℕ, zero, suc, ◌<◌, true, false, List, [], ◌∷◌, None, refl, ◌∙◌, arith, eq-eqb}
use Rattle.std.specs.List.{AllByRecursion}
use Rattle.std.proofs.lemmas.Bool.{ne_eqb}
use Rattle.run_rules.specs.declared.world.Dev.{Dev}
use Rattle.run_rules.specs.World.{has, device_at, parent_of, lineage}

-- ---- one step

pub chain_found : (live : List Dev) (k x s : ℕ) → 0 < k → x ≡ s → has (lineage k live x) s ≡ true
unfolding lineage
chain_found live zero x s more e = absurd (omega arith)
chain_found live (suc k) x s more e = rw (eq-eqb x s e) refl

pub chain_more : (live : List Dev) (k x s : ℕ) → x ≢ s → has (lineage (suc k) live x) s ≡ has (lineage k live (parent_of live x)) s
unfolding lineage
chain_more live k x s ne = rw (ne_eqb x s ne) refl

pub chain_nothing : (live : List Dev) (k x s : ℕ) → k ≡ 0 → has (lineage k live x) s ≡ false
unfolding lineage
chain_nothing live k x s e = rw e refl

-- ---- the root, which has no parent

none_at : (live : List Dev) → AllByRecursion (λ d. 0 < d.serial) live → device_at live 0 ≡ None
none_at [] h = refl
none_at (d ∷ ds) h = rw (ne_eqb d.serial 0 (λ e. let low = h.0 in absurd (omega arith))) (none_at ds h.1)

pub chain_ends : (live : List Dev) (k s : ℕ) → AllByRecursion (λ d. 0 < d.serial) live → 0 ≢ s → has (lineage k live 0) s ≡ false
chain_ends live zero s numbered ne = chain_nothing live 0 0 s refl
chain_ends live (suc k) s numbered ne =
    chain_more live k 0 s ne ∙ rw (none_at live numbered) (chain_ends live k s numbered ne)
