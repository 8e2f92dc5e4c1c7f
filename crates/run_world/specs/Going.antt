-- What a run keeps between two of its events.
use Rattle.run_rules.specs.World.{World}
use Rattle.run_sound.specs.Calls.{CallsDevices}
use Rattle.run_sound.specs.Kept.{Kept, MayRun}
use Rattle.run_world.specs.Scripted.{FormedScripts}

-- a run may go by the setup, the scripts are formed, the world is sound and in its ranges, and finalisers that are before callers are of
-- devices
pub record GoesOn (w : World) : Type 0 where
  pub may : MayRun w.setup
  pub scripts : FormedScripts w.setup
  pub kept : Kept w
  pub calls : CallsDevices w
