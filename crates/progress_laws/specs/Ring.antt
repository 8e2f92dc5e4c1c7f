-- A world in which nobody goes on: who waits there waits for a device that the next one holds.
use Rattle.std.specs.Prelude.{◌≡◌, ◌≢◌, ◌⊎◌, ◌≤◌, ℕ, true, false, List, [], ◌∷◌, length}
use Rattle.run_rules.specs.declared.event.Event.{Event}
use Rattle.run_rules.specs.declared.world.Wait.{Wait}
use Rattle.run_rules.specs.declared.world.Wait.TheVariants as wait
use Rattle.run_rules.specs.declared.world.Activity.TheVariants as activity
use Rattle.run_rules.specs.declared.deed.Choice.TheVariants.{Waits}
use Rattle.run_rules.specs.World.{World, caller_at, has_ended, is_held}
use Rattle.run_rules.specs.Next.{next}
use Rattle.run_rules.specs.Sound.{EachLater}
use Rattle.progress_laws.specs.Still.{HaveAllEnded, NobodyDoes, SomebodyDoes}

-- caller k, which frees, waits for a device that caller j holds
pub record WaitsFor (w : World) (k j : ℕ) : Type 0 where
  pub device : ℕ
  pub waits : next w k ≡ Waits (wait.Refs device)
  pub held : is_held w j device ≡ true

-- caller k is in the middle of a detach or an unplug, and waits for a device that another caller holds, which itself waits for a device
pub record IsHeldUp (w : World) (k : ℕ) : Type 0 where
  pub target : ℕ
  pub frees : (caller_at w k).doing ≡ activity.Frees target
  pub holder : ℕ
  pub other : holder ≢ k
  pub waits : WaitsFor w k holder
  pub device : ℕ
  pub holder_waits : next w holder ≡ Waits (wait.Refs device)

-- where nobody does anything, so it is with each caller that has not ended: no wait is for the boot, for a scan or for the power turn
abbrev pub StuckInARing : List Event → World → Type 0
StuckInARing h w = NobodyDoes w → (k : ℕ) → (has_ended w k ≡ true) ⊎ IsHeldUp w k

-- ---- the ring

-- from caller a, by way of these callers, to b: each waits for a device that the next one holds
abbrev pub Leads : World → ℕ → List ℕ → ℕ → Type 0
Leads w a [] b = a ≡ b
Leads w a (c ∷ cs) b = WaitsFor w a c × Leads w c cs b

-- two callers or more, no one twice: each waits for a device that the next one holds, and the last for one that the first holds
pub record Ring (w : World) : Type 0 where
  pub first : ℕ
  pub others : List ℕ
  pub last : ℕ
  pub some : others ≢ []
  pub apart : EachLater (λ j k. j ≢ k) (first ∷ others)
  pub leads : Leads w first others last
  pub closed : WaitsFor w last first

-- where nobody does anything and somebody waits, there is a ring
abbrev pub RingWhereStuck : List Event → World → Type 0
RingWhereStuck h w = NobodyDoes w → (k : ℕ) (why : Wait) → next w k ≡ Waits why → Ring w

-- somebody does something, or all have ended, or there is a ring and nobody does anything
abbrev pub GoesEndsOrRings : List Event → World → Type 0
GoesEndsOrRings h w = SomebodyDoes w ⊎ (HaveAllEnded w ⊎ (NobodyDoes w × Ring w))

-- ---- without a ring

-- no caller that frees holds a device
abbrev pub FreesEmptyHanded : World → Type 0
FreesEmptyHanded w = (k target s : ℕ) → (caller_at w k).doing ≡ activity.Frees target → is_held w k s ≡ false

-- then some caller does something, or all have ended
abbrev pub NeverStuck : List Event → World → Type 0
NeverStuck h w = FreesEmptyHanded w → SomebodyDoes w ⊎ HaveAllEnded w

-- and so it is of a script alone, whatever it does
abbrev pub EndsAlone : List Event → World → Type 0
EndsAlone h w = length w.setup.scripts ≤ 1 → SomebodyDoes w ⊎ HaveAllEnded w
