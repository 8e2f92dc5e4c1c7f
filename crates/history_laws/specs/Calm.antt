-- The world and the counts behind a boot.
use Rattle.std.specs.Prelude.{◌≡◌, List, [], None}
use Rattle.std.specs.List.{AllByRecursion}
use Rattle.run_rules.specs.declared.event.Event.{Event}
use Rattle.run_rules.specs.declared.world.Setup.{Setup}
use Rattle.run_rules.specs.Counts.{dids_of, ends_of}
use Rattle.run_rules.specs.Run.{Boot}
use Rattle.run_rules.specs.World.{World, opening}
use Rattle.run_sound.specs.Kept.{MayRun}

-- nothing is condemned, nothing is held, and no script has done anything
pub record IsCalm (h : List Event) (w : World) : Type 0 where
  pub spared : AllByRecursion (λ d. d.condemned ≡ None) w.live
  pub unheld : w.refs ≡ []
  pub no_dids : dids_of h ≡ 0
  pub no_ends : ends_of h ≡ 0

-- whatever the tables, the machine and the scripts: the events of a boot, and the world that they lead to
abbrev pub OfEveryBoot : (List Event → World → Type 0) → Type 0
OfEveryBoot P = (s : Setup) (h : List Event) (v : World) → MayRun s → Boot (opening s) h v → P h v
