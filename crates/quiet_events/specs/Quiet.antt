-- Events that end nobody's wait.
use Rattle.std.specs.Prelude.{◌≡◌, ◌≢◌, ℕ, Bool, true, false, None}
use Rattle.run_rules.specs.declared.deed.Deed.{Deed}
use Rattle.run_rules.specs.declared.deed.Choice.TheVariants.{Does, Waits}
use Rattle.run_rules.specs.declared.event.Act.{Act}
use Rattle.run_rules.specs.declared.event.Act.TheVariants as act
use Rattle.run_rules.specs.declared.world.Wait.{Wait}
use Rattle.run_rules.specs.After.{after}
use Rattle.run_rules.specs.Next.{next}
use Rattle.run_rules.specs.Run.{printed}
use Rattle.run_rules.specs.World.{World, is_held}
use Rattle.run_sound.specs.Kept.{Kept}

-- from world w to world v: each caller but j that waits still waits, for the same, and whoever holds a device still holds it
pub record KeepsWaits (w : World) (j : ℕ) (v : World) : Type 0 where
  pub waits : (k : ℕ) (why : Wait) → k ≢ j → next w k ≡ Waits why → next v k ≡ Waits why
  pub holds : (k s : ℕ) → is_held w k s ≡ true → is_held v k s ≡ true

-- in each world as runs come to, whichever caller does next what is told so
abbrev pub EndsNoWait : Act → Type 0
EndsNoWait act = (w : World) (j : ℕ) (d : Deed) → Kept w → next w j ≡ Does d → printed w j d ≡ act → KeepsWaits w j (after w j d)

-- the events that end no wait: a search in vain; a rescan, an open, a transfer, a list or a tree that was asked for; the end of a
-- transfer; hardware that came; and a device that falls asleep or wakes
abbrev pub is_quiet : Act → Bool
is_quiet (act.Found parent spot None) = true
is_quiet (act.Rescan device reply) = true
is_quiet (act.OpenDev device reply) = true
is_quiet (act.OpenSole device reply) = true
is_quiet (act.IoStart device value reply) = true
is_quiet (act.IoDone device answer) = true
is_quiet (act.ListDev device names) = true
is_quiet (act.TreeDev device names) = true
is_quiet (act.Plug spot reply) = true
is_quiet (act.Sleep device) = true
is_quiet (act.Wake device) = true
is_quiet _ = false
