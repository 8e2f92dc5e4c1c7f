-- What is said of the history that a program prints, beside that it is reliable.
use Rattle.std.specs.Prelude.{◌≡◌, List, ◌++◌}
use Rattle.run_rules.specs.declared.event.Event.{Event}
use Rattle.run_rules.specs.Run.{Boot}
use Rattle.run_rules.specs.World.{World, opening}
use Rattle.progress_laws.specs.Ends.{EndsInTime}
use Rattle.boot_laws.specs.Settled.{IsSettled}

-- the boot that the history begins with leaves no spot that some row would take, but as an indirect bus may
abbrev pub BeginsSettled : List Event → World → Type 0
BeginsSettled h w = (boot rest : List Event) (m : World) → h ≡ boot ++ rest → Boot (opening w.setup) boot m → IsSettled m

-- the history has no more events than such a run may have, and its boot left nothing out
pub record IsThorough (h : List Event) (w : World) : Type 0 where
  pub ends : EndsInTime h w
  pub boot : BeginsSettled h w
