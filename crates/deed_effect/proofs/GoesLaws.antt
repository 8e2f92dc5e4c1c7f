-- A deed keeps what a run keeps.
use Rattle.std.proofs.Common.{◌≡◌, ℕ, sym, subst}
use Rattle.std.specs.Prelude.{OnErr, OnOk, Result, Ok, Err}
use Rattle.run_rules.specs.After.{after}
use Rattle.run_rules.specs.Next.{next}
use Rattle.run_rules.specs.World.{World}
use Rattle.run_rules.specs.declared.deed.Choice.TheVariants.{Does}
use Rattle.run_rules.specs.declared.deed.Deed.{Deed}
use Rattle.run_rules.proofs.Setups.{after_setup}
use Rattle.run_sound.specs.Kept.{MayRun}
use Rattle.run_sound.proofs.Calls.{calls_after}
use Rattle.run_sound.proofs.Steps.{kept_after}
use Rattle.run_world.specs.Going.{GoesOn}
use Rattle.run_world.specs.Scripted.{FormedScripts}

pub goes_after : (w : World) (k : ℕ) (d : Deed) → GoesOn w → next w k ≡ Does d → GoesOn (after w k d)
goes_after w k d goes chosen = record {
  may = subst MayRun (sym (after_setup w k d)) goes.may;
  scripts = subst FormedScripts (sym (after_setup w k d)) goes.scripts;
  kept = kept_after w k d goes.may goes.kept chosen;
  calls = calls_after w k d goes.kept.ranges.counted goes.calls;
}

-- and so does one that was done or not
pub goes_still : {A B : Type 0} (w v : World) (k : ℕ) (d : Deed) (r : Result A B) → GoesOn w → next w k ≡ Does d → OnOk r (v ≡ after w k d) → OnErr r (v ≡ w) → GoesOn v
goes_still w v k d (Ok x) goes chosen done same = subst GoesOn (sym done) (goes_after w k d goes chosen)
goes_still w v k d (Err x) goes chosen done same = subst GoesOn (sym same) goes
