-- Of every run from an opening world what is counted on its lines is what the world has.
use Rattle.std.proofs.Common.{ℕ, List, [], ◌∷◌, ◌++◌, refl, sym, subst, append_assoc, arith}
use Rattle.std.proofs.lemmas.List.{append-nil}
use Rattle.run_rules.specs.declared.event.Event.{Event}
use Rattle.run_rules.specs.declared.world.Setup.{Setup}
use Rattle.run_rules.specs.World.{World, opening}
use Rattle.run_rules.specs.Laws.{is_asleep_in, lives, parent_in, sole_in}
use Rattle.run_rules.specs.Run.{Run, Step, event_of}
use Rattle.run_rules.specs.After.{after}
use Rattle.run_rules.proofs.Setups.{after_setup}
use Rattle.run_sound.specs.Kept.{Kept, MayRun}
use Rattle.run_sound.proofs.Opening.{opening_kept}
use Rattle.run_sound.proofs.Steps.{kept_after}
use Rattle.history_laws.specs.Counted.{Counted, granted, returned}
use Rattle.history_laws.proofs.Kept.{counted_after}

-- a world of a run, and the history that led to it
pub record Stands (h : List Event) (w : World) : Type 0 where
  pub may : MayRun w.setup
  pub kept : Kept w
  pub counted : Counted h w

nothing_counted : (s : Setup) → Counted [] (opening s)
unfolding opening lives parent_in is_asleep_in sole_in granted returned
nothing_counted s = record {
  names = λ x. record { lives = refl; parent = λ d is. absurd cc; asleep = λ d is. absurd cc; held = λ k. omega arith; solely = λ k. refl };
  refs = record { each = λ k. omega arith; all = omega arith };
}

pub stands_open : (s : Setup) → MayRun s → Stands [] (opening s)
unfolding opening
stands_open s may = record { may = may; kept = opening_kept s may; counted = nothing_counted s }

pub stands_on : (h : List Event) (w : World) (k : ℕ) (e : Event) (v : World) → Stands h w → Step w k e v → Stands (h ++ e ∷ []) v
stands_on h w k e v at step =
    let next : Stands (h ++ event_of w k step.deed ∷ []) (after w k step.deed) = record {
      may = subst MayRun (sym (after_setup w k step.deed)) at.may;
      kept = kept_after w k step.deed at.may at.kept step.chosen;
      counted = counted_after h w k step.deed at.may at.kept step.chosen at.counted;
    } in
    subst (λ (f : Event). Stands (h ++ f ∷ []) v) (sym step.event) (subst (Stands (h ++ event_of w k step.deed ∷ [])) (sym step.world) next)

pub stands_run : (h : List Event) (w : World) (es : List Event) (v : World) → Stands h w → Run w es v → Stands (h ++ es) v
stands_run h w [] v at run = subst (λ (g : List Event). Stands g v) (sym (append-nil h)) (subst (Stands h) run at)
stands_run h w (e ∷ es) v at run =
    subst (λ (g : List Event). Stands g v) (append_assoc h (e ∷ []) es) (stands_run (h ++ e ∷ []) run.0 es v (stands_on h w e.caller e run.0 at run.1) run.2)

pub stands_always : (s : Setup) (h : List Event) (v : World) → MayRun s → Run (opening s) h v → Stands h v
stands_always s h v may run = stands_run [] (opening s) h v (stands_open s may) run

pub always_counted : (s : Setup) (h : List Event) (v : World) → MayRun s → Run (opening s) h v → Counted h v
always_counted s h v may run = (stands_always s h v may run).counted
