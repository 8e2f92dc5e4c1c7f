-- Every run ends, and each can be gone on with until no caller does anything.
use Rattle.std.proofs.Common.{◌≡◌, ◌≤◌, inl, inr, ℕ, zero, suc, ◌+◌, List, [], ◌∷◌, length, refl, sym, ◌∙◌, subst, arith}
use Rattle.run_rules.specs.declared.event.Event.{Event}
use Rattle.run_rules.specs.declared.world.Setup.{Setup}
use Rattle.run_rules.specs.declared.deed.Deed.{Deed}
use Rattle.run_rules.specs.declared.deed.Choice.TheVariants.{Does}
use Rattle.run_rules.specs.World.{World, opening}
use Rattle.run_rules.specs.Next.{next}
use Rattle.run_rules.specs.After.{after}
use Rattle.run_rules.specs.Run.{Run, Step, event_of}
use Rattle.run_rules.proofs.Setups.{after_setup}
use Rattle.run_sound.specs.InFull.{KeptInFull}
use Rattle.run_sound.specs.Kept.{MayRun}
use Rattle.run_sound.proofs.InFull.{full_after, full_open}
use Rattle.progress_laws.specs.Ahead.{run_left}
use Rattle.progress_laws.specs.Ends.{ComesToRest, EndsInTime, Rests}
use Rattle.progress_laws.specs.Still.{NobodyDoes, SomebodyDoes}
use Rattle.progress_laws.proofs.Falls.{left_falls}
use Rattle.progress_laws.proofs.Opening.{left_first, opens_with}
use Rattle.progress_laws.proofs.Still.{somebody_or_nobody}

-- a world as runs come to
pub record Reached (w : World) : Type 0 where
  pub may : MayRun w.setup
  pub full : KeptInFull w

pub reached_on : (w : World) (k : ℕ) (d : Deed) → Reached w → next w k ≡ Does d → Reached (after w k d)
reached_on w k d at e = record { may = subst MayRun (sym (after_setup w k d)) at.may; full = full_after w k d at.may at.full e }

-- the events of a run and what is left behind them are no more than what was left, and its setup stays
record LeadsTo (w : World) (h : List Event) (v : World) : Type 0 where
  reached : Reached v
  setup : v.setup ≡ w.setup
  few : length h + run_left v ≤ run_left w

step_leads : (w : World) (e : Event) (es : List Event) (v : World) (k : ℕ) (d : Deed) → Reached w → next w k ≡ Does d → LeadsTo (after w k d) es v → LeadsTo w (e ∷ es) v
step_leads w e es v k d at chosen rest = record {
  reached = rest.reached;
  setup = rest.setup ∙ after_setup w k d;
  few = omega (arith, rest.few, left_falls w k d at.may at.full.kept chosen);
}

leads : (w : World) (h : List Event) (v : World) → Reached w → Run w h v → LeadsTo w h v
leads w [] v at run = subst (λ (x : World). LeadsTo w [] x) run (record { reached = at; setup = refl; few = omega arith })
leads w (e ∷ es) v at run =
    let step = run.1 in
    let reached : Reached run.0 = subst Reached (sym step.world) (reached_on w e.caller step.deed at step.chosen) in
    step_leads w e es v e.caller step.deed at step.chosen (subst (λ (x : World). LeadsTo x es v) step.world (leads run.0 es v reached run.2))

pub opens : (s : Setup) → MayRun s → Reached (opening s)
opens s may = record { may = rw (opens_with s) may; full = full_open s may }

pub ends_in_time : (s : Setup) (h : List Event) (v : World) → MayRun s → Run (opening s) h v → EndsInTime h v
ends_in_time s h v may run =
    let to : LeadsTo (opening s) h v = leads (opening s) h v (opens s may) run in
    let same : v.setup ≡ s = to.setup ∙ opens_with s in
    rw same (omega (arith, to.few, left_first s may))

-- ---- a run that goes on to its end

-- what is left falls, so it comes to rest
pub by_one : (w : World) (a : SomebodyDoes w) → Step w (event_of w a.0 a.1).caller (event_of w a.0 a.1) (after w a.0 a.1)
unfolding event_of
by_one w a = record { deed = a.1; chosen = a.2; event = refl; world = refl }

rests_now : (w : World) → NobodyDoes w → Rests w
rests_now w still = record { more = []; last = w; run = refl; still = still }

-- one event more
rests_later : (w : World) (a : SomebodyDoes w) → Rests (after w a.0 a.1) → Rests w
rests_later w a r = record {
  more = event_of w a.0 a.1 ∷ r.more;
  last = r.last;
  run = (after w a.0 a.1, by_one w a, r.run);
  still = r.still;
}

rests : (n : ℕ) (w : World) → run_left w ≤ n → Reached w → Rests w
rests zero w le at = elim (somebody_or_nobody w) [
  | inl a ↦ absurd (omega (arith, le, left_falls w a.0 a.1 at.may at.full.kept a.2))
  | inr still ↦ rests_now w still
]
rests (suc n) w le at = elim (somebody_or_nobody w) [
  | inl a ↦
      rests_later w a
      (rests n (after w a.0 a.1) (omega (arith, le, left_falls w a.0 a.1 at.may at.full.kept a.2)) (reached_on w a.0 a.1 at a.2))
  | inr still ↦ rests_now w still
]

pub comes_to_rest : (s : Setup) (h : List Event) (v : World) → MayRun s → Run (opening s) h v → ComesToRest h v
comes_to_rest s h v may run = rests (run_left v) v (omega arith) (leads (opening s) h v (opens s may) run).reached
