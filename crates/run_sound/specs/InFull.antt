-- What each step keeps beside `Kept`, for laws of progress: interrupts work after the boot, and nobody waits for its own reference.
use Rattle.std.specs.Prelude.{◌≡◌, ℕ, true, false, Some}
use Rattle.std.specs.List.{AllByRecursion}
use Rattle.run_rules.specs.declared.world.Dev.{Dev}
use Rattle.run_rules.specs.World.{World, has_ended, is_held}
use Rattle.run_sound.specs.Kept.{Kept}

-- once the boot has ended, interrupts work
abbrev pub InterruptsWork : World → Type 0
InterruptsWork w = has_ended w 0 ≡ true → w.interrupts_on ≡ true

-- of a device: who condemned it does not hold it
abbrev pub IsUnheld : World → Dev → Type 0
IsUnheld w d = (k : ℕ) → d.condemned ≡ Some k → is_held w k d.serial ≡ false

-- nobody holds what it condemned
abbrev pub HoldNoneCondemned : World → Type 0
HoldNoneCondemned w = AllByRecursion (IsUnheld w) w.live

-- a kept world in which both hold
pub record KeptInFull (w : World) : Type 0 where
  pub kept : Kept w
  pub interrupts : InterruptsWork w
  pub unheld : HoldNoneCondemned w
