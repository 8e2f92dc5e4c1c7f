-- What a run may go by, and what each of its steps keeps beside `Sound`.
use Rattle.std.specs.Prelude.{◌≡◌, ◌⊎◌, ◌<◌, ◌≤◌, ◌+◌, ◌^◌, ℕ, suc, true, false, List, length}
use Rattle.std.specs.List.{AllByRecursion}
use Rattle.config_rules.specs.Formed.{FormedTables, FittingMachine}
use Rattle.run_rules.specs.declared.world.Dev.{Dev}
use Rattle.run_rules.specs.declared.world.Setup.{Setup}
use Rattle.run_rules.specs.declared.world.Activity.TheVariants as activity
use Rattle.run_rules.specs.World.{World, caller_at, has_ended}
use Rattle.run_rules.specs.Search.{is_occupied}
use Rattle.run_rules.specs.Sound.{Sound}
use Rattle.run_sound.specs.Left.{free_spots}
use Rattle.run_sound.specs.Scripts.{IsInScript, IsOfScript, NamesCaller, script_of}

-- formed tables, a machine that fits them, and at most 16 scripts of at most 500 commands each
pub record MayRun (s : Setup) : Type 0 where
  pub tables : FormedTables s.tables
  pub machine : FittingMachine s.tables s.machine
  pub few_scripts : length s.scripts ≤ 16
  pub short_scripts : AllByRecursion (λ script. length script ≤ 500) s.scripts

-- the row, the unit and the spot of each live device are there, none stands on a hidden spot, and there are no more of them than spots
pub record AreRanged (s : Setup) (live : List Dev) (hidden : List ℕ) : Type 0 where
  pub rows : AllByRecursion (λ d. d.row < length s.tables.rows) live
  pub units : AllByRecursion (λ d. d.unit < 2 ^ 32) live
  pub spots : AllByRecursion (λ d. d.spot < length s.machine.spots) live
  pub bare : AllByRecursion (λ x. is_occupied live x ≡ false) hidden
  pub few : length live + free_spots live (length s.machine.spots) ≤ length s.machine.spots

-- caller 0 boots or has ended, each other caller is in its own script, and references and transfers are of the callers that have them
pub record AreInScripts (w : World) : Type 0 where
  pub as_many : length w.callers ≡ suc (length w.setup.scripts)
  pub booting : ((caller_at w 0).doing ≡ activity.Idle) ⊎ ((caller_at w 0).doing ≡ activity.Ended)
  pub placed : (k : ℕ) → IsInScript (script_of w.setup k) (caller_at w k)
  pub tickets : (k : ℕ) → NamesCaller k (caller_at w k)
  pub holders : AllByRecursion (λ r. IsOfScript w.setup r.caller) w.refs

-- the finalisers of the boot's list and the free spots are no more than the spots; after an answer 1 the list has one
pub record HasBootList (w : World) : Type 0 where
  pub few : length w.finalisers + free_spots w.live (length w.setup.machine.spots) ≤ length w.setup.machine.spots
  pub some : w.pass_repeats ≡ true → 0 < length w.finalisers

-- devices, callers and, while the boot goes on, its list; serials count from 1
pub record InRange (w : World) : Type 0 where
  pub devices : AreRanged w.setup w.live w.hidden
  pub callers : AreInScripts w
  pub list : has_ended w 0 ≡ false → HasBootList w
  pub counted : 0 < w.next

-- a sound world in its ranges
pub record Kept (w : World) : Type 0 where
  pub sound : Sound w
  pub ranges : InRange w
