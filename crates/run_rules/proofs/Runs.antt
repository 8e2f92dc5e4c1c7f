-- A run goes on by one event.
use Rattle.std.proofs.Common.{◌≡◌, ℕ, List, [], ◌∷◌, ◌++◌, refl, sym, subst}
use Rattle.run_rules.specs.declared.event.Event.{Event}
use Rattle.run_rules.specs.World.{World}
use Rattle.run_rules.specs.declared.deed.Deed.{Deed}
use Rattle.run_rules.specs.declared.deed.Choice.TheVariants.{Does}
use Rattle.run_rules.specs.Next.{next}
use Rattle.run_rules.specs.After.{after}
use Rattle.run_rules.specs.Run.{Run, Step, event_of}

one_step : (w : World) (k : ℕ) (d : Deed) → next w k ≡ Does d → Step w (event_of w k d).caller (event_of w k d) (after w k d)
unfolding event_of
one_step w k d chosen = record { deed = d; chosen = chosen; event = refl; world = refl }

pub run_on : (w : World) (h : List Event) (v : World) (k : ℕ) (d : Deed) → Run w h v → next v k ≡ Does d → Run w (h ++ event_of v k d ∷ []) (after v k d)
run_on w [] v k d run chosen =
    subst (λ (x : World). Run x (event_of v k d ∷ []) (after v k d)) (sym run) (after v k d, one_step v k d chosen, refl)
run_on w (e ∷ h) v k d run chosen = (run.0, run.1, run_on run.0 h v k d run.2 chosen)

-- an event is of the caller whose deed it tells
pub event_caller : (w : World) (k : ℕ) (d : Deed) → (event_of w k d).caller ≡ k
unfolding event_of
event_caller w k d = refl
