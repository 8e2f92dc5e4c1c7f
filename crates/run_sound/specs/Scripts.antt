-- The place of a caller in its script.
use Rattle.std.specs.Prelude.{◌≡◌, ◌≢◌, ◌⊎◌, ◌≤◌, ⊤, ℕ, zero, suc, List, [], length, Option, Some, slice_get, slice_index_or}
use Rattle.cf_types.specs.declared.machine.Command.{Command}
use Rattle.cf_types.specs.declared.machine.Command.TheVariants as command
use Rattle.cf_types.specs.declared.machine.Given.{Given}
use Rattle.cf_types.specs.declared.machine.Ticket.{Ticket}
use Rattle.run_rules.specs.declared.event.PowerKind.{PowerKind}
use Rattle.run_rules.specs.declared.event.PowerKind.TheVariants as kind
use Rattle.run_rules.specs.declared.world.Setup.{Setup}
use Rattle.run_rules.specs.declared.world.Activity.{Activity}
use Rattle.run_rules.specs.declared.world.Activity.TheVariants as activity
use Rattle.run_rules.specs.World.{Caller}

-- the power command of a kind: after drvctl(8)
abbrev pub power_command : PowerKind → List ℕ → Command
power_command kind.Suspend name = command.Suspend name
power_command kind.Resume name = command.Resume name
power_command kind.ResumeTree name = command.ResumeTree name

-- the script of a caller; the one that boots has none
abbrev pub script_of : Setup → ℕ → List Command
script_of s zero = []
script_of s (suc k) = slice_index_or s.scripts k []

-- the caller of a script: they are counted from 1
abbrev pub IsOfScript : Setup → ℕ → Type 0
IsOfScript s k = (1 ≤ k) × (k ≤ length s.scripts)

-- who is in the middle of something is in the middle of a command that does it
abbrev pub IsAmid : Activity → Option Command → Type 0
IsAmid activity.Idle c = ⊤
IsAmid activity.Ended c = ⊤
IsAmid (activity.Transfer ticket) c = (name : List ℕ) × (value : ℕ) × (c ≡ Some (command.Io name value))
IsAmid (activity.Frees s) c = (name : List ℕ) × ((c ≡ Some (command.Detach name)) ⊎ (c ≡ Some (command.Unplug name)))
IsAmid activity.Scans c = (name : List ℕ) × (attr : Option (List ℕ)) × (given : List Given) × (c ≡ Some (command.Rescan name attr given))
IsAmid (activity.Power kind s) c = (name : List ℕ) × (c ≡ Some (power_command kind name))

-- no more commands are over than the script has, what the caller is in the middle of goes by its next command, and in a rescan it has a frame
pub record IsInScript (script : List Command) (c : Caller) : Type 0 where
  pub within : c.over ≤ length script
  pub amid : IsAmid c.doing (slice_get script c.over)
  pub scans : c.doing ≡ activity.Scans → c.stack ≢ []

-- the transfer that a caller is in the middle of is its own
abbrev pub NamesCaller : ℕ → Caller → Type 0
NamesCaller k c = (t : Ticket) → c.doing ≡ activity.Transfer t → t.caller ≡ k
