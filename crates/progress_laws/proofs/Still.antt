-- In each world somebody does something, or nobody does.
use Rattle.std.proofs.Common.{◌≡◌, ◌≢◌, ◌<◌, ◌⊎◌, ℕ, zero, suc, ◌==◌, ◌&&◌, if◌then◌else◌, not, Bool, true, false, refl, sym, subst, ◌∙◌, inl, inr, eqb-true, arith, length}
use Rattle.std.proofs.lemmas.Bool.{eqb-false}
use Rattle.run_rules.specs.declared.deed.Deed.{Deed}
use Rattle.run_rules.specs.declared.deed.Choice.{Choice}
use Rattle.run_rules.specs.declared.deed.Choice.TheVariants.{Ended, Waits, Does}
use Rattle.run_rules.specs.declared.world.Wait.{Wait}
use Rattle.run_rules.specs.declared.world.Wait.TheVariants as wait
use Rattle.run_rules.specs.Next.{by_activity, next}
use Rattle.run_rules.specs.World.{World, caller_at, has_ended}
use Rattle.run_sound.proofs.Callers.{doing_there}
use Rattle.progress_laws.specs.Still.{NobodyDoes, SomebodyDoes}

-- what each number below n has, and n, each below n + 1 has
pub below_next : (P : ℕ → Type 0) (n : ℕ) → ((k : ℕ) → k < n → P k) → P n → (k : ℕ) → k < suc n → P k
below_next P n each last k lt = cases (k == n) refl
  where
    smaller : k ≢ n → k < n
    smaller other = grind (arith, lt, other)

    cases : (b : Bool) → (k == n) ≡ b → P k
    cases true same = subst P (sym (eqb-true k n same)) last
    cases false other = each k (smaller (eqb-false k n other))

does_or_not : (w : World) (n : ℕ) → SomebodyDoes w ⊎ ((k : ℕ) → k < n → (d : Deed) → next w k ≢ Does d)
does_or_not w zero = inr (λ k lt d e. omega (arith, lt))
does_or_not w (suc n) = elim (does_or_not w n) [ inl some ↦ inl some | inr none ↦ last none (next w n) refl ]
  where
    last : ((k : ℕ) → k < n → (d : Deed) → next w k ≢ Does d) → (c : Choice) → next w n ≡ c → SomebodyDoes w ⊎ ((k : ℕ) → k < suc n → (d : Deed) → next w k ≢ Does d)
    last none (Does d) e = inl (n, d, e)
    last none Ended e = inr (below_next (λ k. (d : Deed) → next w k ≢ Does d) n none (λ d f. not_ended (sym e ∙ f)))
      where
        not_ended : {d : Deed} → Ended ≡ Does d → ⊥
        not_ended h = cc
    last none (Waits why) e = inr (below_next (λ k. (d : Deed) → next w k ≢ Does d) n none (λ d f. not_waits (sym e ∙ f)))
      where
        not_waits : {d : Deed} → Waits why ≡ Does d → ⊥
        not_waits h = cc

-- who does something is one of the callers
pub somebody_or_nobody : (w : World) → SomebodyDoes w ⊎ NobodyDoes w
somebody_or_nobody w = elim (does_or_not w (length w.callers)) [ inl some ↦ inl some | inr none ↦ inr (λ k d e. none k (doing_there w k d e) d e) ]

-- who waits has not ended
pub waiting_unended : (w : World) (k : ℕ) (why : Wait) → next w k ≡ Waits why → has_ended w k ≡ false
unfolding next
waiting_unended w k why e = ends (has_ended w k) refl e
  where
    ends : (b : Bool) → has_ended w k ≡ b → (if b then Ended else (if not (k == 0) && not (has_ended w 0) then Waits wait.Boot else by_activity w k (caller_at w k).doing)) ≡ Waits why → has_ended w k ≡ false
    ends true h waits = absurd cc
    ends false h waits = h
