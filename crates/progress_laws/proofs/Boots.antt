-- While the boot goes on, caller 0 waits for nothing.
use Rattle.std.proofs.Common.{◌≡◌, ◌∙◌, ◌⊎◌, inl, inr, true, false, List, [], ◌∷◌, refl, sym, ap, subst}
use Rattle.run_rules.specs.declared.deed.Choice.TheVariants.{Does, Ended, Waits}
use Rattle.run_rules.specs.declared.world.Activity.{Activity}
use Rattle.run_rules.specs.declared.world.Activity.TheVariants as activity
use Rattle.run_rules.specs.declared.world.Frame.{Frame}
use Rattle.run_rules.specs.declared.world.Wait.{Wait}
use Rattle.run_rules.specs.Next.{by_activity, next, on_top}
use Rattle.run_rules.specs.World.{World, caller_at, has_ended, is_ended}
use Rattle.run_sound.specs.Kept.{Kept}
use Rattle.run_sound.proofs.Callers.{clash}
use Rattle.progress_laws.proofs.Waits.{Acts, boot_acts, next_is, top_acts}

pub goes_on : (w : World) → Kept w → has_ended w 0 ≡ false → Acts (next w 0)
goes_on w kept goes = subst Acts (sym (next_is w 0 goes (λ later. absurd (later refl)))) (by kept.ranges.callers.booting)
  where
    by_stack : (fs : List Frame) → Acts (on_top w 0 fs)
    by_stack [] = boot_acts w
    by_stack (f ∷ fs) = top_acts w 0 f fs

    never : (a : Activity) → is_ended a ≡ false → a ≡ activity.Ended → ⊥
    never a not_so is = let so : is_ended a ≡ true = ap is_ended is in clash (is_ended a) so not_so

    by : ((caller_at w 0).doing ≡ activity.Idle) ⊎ ((caller_at w 0).doing ≡ activity.Ended) → Acts (by_activity w 0 (caller_at w 0).doing)
    by (inl is) = subst (λ (a : Activity). Acts (by_activity w 0 a)) (sym is) (by_stack (caller_at w 0).stack)
    by (inr is) = absurd (never (caller_at w 0).doing goes is)

pub no_wait : (w : World) (why : Wait) → Kept w → has_ended w 0 ≡ false → next w 0 ≡ Waits why → ⊥
no_wait w why kept goes is = let acts = goes_on w kept goes in let other : Waits why ≡ Does acts.0 = sym is ∙ acts.1 in absurd cc

pub no_end : (w : World) → Kept w → has_ended w 0 ≡ false → next w 0 ≡ Ended → ⊥
no_end w kept goes is = let acts = goes_on w kept goes in let other : Ended ≡ Does acts.0 = sym is ∙ acts.1 in absurd cc
