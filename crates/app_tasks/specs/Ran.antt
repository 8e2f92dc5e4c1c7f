-- A board after a boot, and after the turns that follow it.
use Rattle.std.specs.Prelude.{◌≡◌, ℕ, List, ◌++◌}
use Rattle.boot_laws.specs.Thorough.{IsThorough}
use Rattle.dev_board.specs.Shown.{Shown}
use Rattle.history_laws.specs.Reliable.{IsReliable}
use Rattle.run_rules.specs.declared.event.Event.{Event}
use Rattle.run_rules.specs.declared.world.Setup.{Setup}
use Rattle.run_rules.specs.Run.{Boot, played}
use Rattle.run_rules.specs.World.{World, opening}

-- the board has done the boot of this setup and nothing else; its history is reliable and thorough
pub record IsBootOf (setup : Setup) (b : Shown) : Type 0 where
  pub boot : Boot (opening setup) b.events b.world
  pub made : b.world.setup ≡ setup
  pub reliable : IsReliable b.events b.world
  pub thorough : IsThorough b.events b.world

-- the events and the world of a boot and of the turns of an order after it
abbrev pub IsPlayed : Setup → List ℕ → List Event → World → Type 0
IsPlayed setup order events world =
    (h : List Event) × (w : World) × Boot (opening setup) h w × (events ≡ h ++ (played w order).0) × (world ≡ (played w order).1)

-- the board has done the boot of this setup and then the turns of an order; its history is reliable and thorough
pub record IsPlayOf (setup : Setup) (order : List ℕ) (b : Shown) : Type 0 where
  pub played : IsPlayed setup order b.events b.world
  pub made : b.world.setup ≡ setup
  pub reliable : IsReliable b.events b.world
  pub thorough : IsThorough b.events b.world
