-- Each step keeps a world in full, whoever makes it, and so does a run.
use Rattle.std.proofs.Common.{◌≡◌, ℕ, List, [], ◌∷◌, sym, subst, ap, ◌∙◌, refl}
use Rattle.run_rules.specs.declared.event.Event.{Event}
use Rattle.run_rules.specs.declared.world.Setup.{Setup}
use Rattle.run_rules.specs.declared.deed.Deed.{Deed}
use Rattle.run_rules.specs.declared.deed.Choice.TheVariants.{Does}
use Rattle.run_rules.specs.World.{World, opening}
use Rattle.run_rules.specs.Next.{next}
use Rattle.run_rules.specs.After.{after}
use Rattle.run_rules.specs.Run.{Run, Step}
use Rattle.run_rules.proofs.Setups.{after_setup}
use Rattle.run_sound.specs.InFull.{KeptInFull}
use Rattle.run_sound.specs.Kept.{MayRun}
use Rattle.run_sound.proofs.Interrupts.{interrupts_after, interrupts_open}
use Rattle.run_sound.proofs.Opening.{opening_kept}
use Rattle.run_sound.proofs.Steps.{kept_after}
use Rattle.run_sound.proofs.Unheld.{unheld_after, unheld_open}

pub full_after : (w : World) (k : ℕ) (d : Deed) → MayRun w.setup → KeptInFull w → next w k ≡ Does d → KeptInFull (after w k d)
full_after w k d may at e = record {
  kept = kept_after w k d may at.kept e;
  interrupts = interrupts_after w k d at.kept e at.interrupts;
  unheld = unheld_after w k at.kept at.unheld d e;
}

pub full_open : (s : Setup) → MayRun s → KeptInFull (opening s)
full_open s may = record { kept = opening_kept s may; interrupts = interrupts_open s; unheld = unheld_open s }

pub full_run : (w : World) (es : List Event) (v : World) → MayRun w.setup → KeptInFull w → Run w es v → KeptInFull v
full_run w [] v may at run = subst KeptInFull run at
full_run w (e ∷ es) v may at run =
    let step : Step w e.caller e run.0 = run.1 in
    let same : run.0.setup ≡ w.setup = ap (λ (x : World). x.setup) step.world ∙ after_setup w e.caller step.deed in
    full_run run.0 es v (subst MayRun (sym same) may) (subst KeptInFull (sym step.world) (full_after w e.caller step.deed may at step.chosen)) run.2

opening_setup : (s : Setup) → (opening s).setup ≡ s
unfolding opening
opening_setup s = refl

-- so it is in every world of a run
pub full_always : (s : Setup) (h : List Event) (v : World) → MayRun s → Run (opening s) h v → KeptInFull v
full_always s h v may run = full_run (opening s) h v (subst MayRun (sym (opening_setup s)) may) (full_open s may) run
