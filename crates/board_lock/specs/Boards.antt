-- Words for boards.
use Rattle.std.specs.Prelude.{ℕ, ⊤, ◌<◌, Bool, true, false, cond, [], length}
use Rattle.cf_types.specs.declared.tables.Tables.{Tables}
use Rattle.cf_types.specs.declared.machine.Machine.{Machine}
use Rattle.ref_ledger.specs.declared.state.SlotState.{SlotState}
use Rattle.ref_ledger.specs.declared.state.SlotState.TheVariants as state
use Rattle.run_rules.specs.declared.event.Event.{Event}
use Rattle.run_rules.specs.Counts.{closes_script, is_of_script}
use Rattle.run_rules.specs.World.{World, opening, setup_of}
use Rattle.dev_board.specs.Shown.{Shown}
use Rattle.dev_board.specs.declared.answer.LeaseStep.{LeaseStep}
use Rattle.dev_board.specs.declared.answer.LeaseStep.TheVariants.{Keep, Take, Give}

-- the opening world of a machine without spots, whose tables are empty
abbrev pub no_tables : Tables
no_tables = record { attrs = []; devices = []; attaches = []; rows = []; pseudos = []; options = []; makeoptions = []; file_systems = []; warnings = [] }

abbrev pub no_machine : Machine
no_machine = record { spots = []; matches = []; styles = []; policies = [] }

abbrev pub nowhere : World
nowhere = opening (setup_of no_tables no_machine [])

-- how many spots the machine has, and how many scripts there are
abbrev pub spots_of : World → ℕ
spots_of w = length w.setup.machine.spots

abbrev pub scripts_of : World → ℕ
scripts_of w = length w.setup.scripts

-- what contracts see of a run that is over: the board, and how many scripts have ended
pub record FinishedShown : Type 0 where
  pub board : Shown
  pub ended : ℕ

-- 1 for the end of a script, else 0
abbrev pub one_end : Event → ℕ
one_end e = cond (closes_script e) 1 0

-- 1 for an event of a script, else 0
abbrev pub one_did : Event → ℕ
one_did e = cond (is_of_script e) 1 0

-- the slot of a lease step is one of n slots
abbrev pub LeaseFits : ℕ → LeaseStep → Type 0
LeaseFits n Keep = ⊤
LeaseFits n (Take s) = s < n
LeaseFits n (Give s) = s < n

abbrev pub is_occupied : SlotState → Bool
is_occupied state.Free = false
is_occupied state.Live = true
is_occupied state.Condemned = true
