-- Every run is thorough.
use Rattle.std.proofs.Common.{◌≡◌, ◌∙◌, List, subst}
use Rattle.run_rules.specs.declared.event.Event.{Event}
use Rattle.run_rules.specs.declared.world.Setup.{Setup}
use Rattle.run_rules.specs.Run.{Boot, Run}
use Rattle.run_rules.specs.World.{World, opening}
use Rattle.run_rules.proofs.Setups.{run_setup}
use Rattle.run_sound.specs.Kept.{MayRun}
use Rattle.progress_laws.proofs.Opening.{opens_with}
use Rattle.progress_laws.proofs.Runs.{ends_in_time}
use Rattle.boot_laws.specs.Thorough.{IsThorough}
use Rattle.boot_laws.proofs.Boots.{boot_settles}

pub thorough : (s : Setup) (h : List Event) (v : World) → MayRun s → Run (opening s) h v → IsThorough h v
thorough s h v may run =
    let same : v.setup ≡ s = run_setup (opening s) h v run ∙ opens_with s in
    record {
      ends = ends_in_time s h v may run;
      boot = λ boot rest m is boots. boot_settles s boot m may (subst (λ (x : Setup). Boot (opening x) boot m) same boots);
    }
