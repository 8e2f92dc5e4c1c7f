-- What is read from generated files.
use Rattle.std.proofs.Common.{List, ◌≡◌, ◌≢◌, ℕ, inl, inr, arith, Option, Some, refl, subst}
use Rattle.std.specs.Prelude as std
use Rattle.std.specs.Prelude.{Result, codes}
use Rattle.cf_types.specs.declared.machine.Machine.{Machine}
use Rattle.cf_types.specs.declared.tables.Tables.{Tables}
use Rattle.cf_io.specs.Faults.{Rose}
use Rattle.cf_io.specs.Memory.{file_named}
use Rattle.config_rules.specs.Reading.{Files}
use Rattle.app_input.specs.declared.inputs.Inputs.{Inputs}
use Rattle.app_input.specs.declared.inputs.Inputs.TheVariants.{Load}
use Rattle.app_words.specs.declared.status.Status.{Status}
use Rattle.app_words.specs.declared.status.Status.TheVariants.{Ok, ConfigRefused, Usage, MachineRefused, ScriptRefused, HistoryRefused, Absent, TooLong, ReadFault, WriteFault, Memory, Stuck, Worlds, Unknown}
use Rattle.app_input.specs.Inputs.{Boots, IsDescribed, IsFirstFault, IsLacking, IsLong, IsMeant, Reads, ReadsMachine, ReadsTables, made_files}
use Rattle.app_words.specs.Status.{Counts}
use Rattle.app_words.specs.Words.{load}

never : Rose 0 0 → ⊥
never (inl less) = omega (arith, less)
never (inr most) = omega (arith, most)

-- a machine file was not refused by a fault, where the count stands at 0
pub machine_unread : (status : Status) → Counts {A = Machine} 0 0 (std.Err status) → status ≢ ReadFault
machine_unread status counts is = never (subst (λ (s : Status). Counts {A = Machine} 0 0 (std.Err s)) is counts).1

-- a refusal of the generated configuration
pub made_refused : (n : ℕ) (read told : Option Files) (status : Status) → read ≡ Some (file_named (made_files n)) → ReadsTables read (codes "conf") (std.Err status)
    → status ≢ ReadFault → Reads (Some (load n)) told (std.Err status)
made_refused n read told (ConfigRefused file line code) is why quiet =
    (load n, refl, refl, subst (λ (files : Option Files). IsFirstFault files (codes "conf") (record { file = file; line = line; code = code })) is why)
made_refused n read told ReadFault is why quiet = absurd (quiet refl)
made_refused n read told Memory is why quiet = tt
made_refused n read told Ok is why quiet = elim why [ ]
made_refused n read told Usage is why quiet = elim why [ ]
made_refused n read told (MachineRefused line code) is why quiet = elim why [ ]
made_refused n read told (ScriptRefused which line code) is why quiet = elim why [ ]
made_refused n read told (Absent name) is why quiet = elim why [ ]
made_refused n read told (TooLong name) is why quiet = elim why [ ]
made_refused n read told WriteFault is why quiet = elim why [ ]
made_refused n read told (HistoryRefused line) is why quiet = elim why [ ]
made_refused n read told (Stuck waits) is why quiet = elim why [ ]
made_refused n read told (Worlds most) is why quiet = elim why [ ]
made_refused n read told (Unknown name) is why quiet = elim why [ ]

-- the generated configuration means the tables, and P holds of the generated machine file with them
made_boots : (P : Option Files → List ℕ → Tables → Type 0) (n : ℕ) (read told : Option Files) (tables : Tables) → read ≡ Some (file_named (made_files n)) → IsMeant read (codes "conf") tables
    → P read (codes "mach") tables → Boots (Some (load n)) told P
made_boots P n read told tables is meant holds = (
  load n,
  codes "mach",
  tables,
  refl,
  refl,
  subst (λ (files : Option Files). IsMeant files (codes "conf") tables) is meant,
  subst (λ (files : Option Files). P files (codes "mach") tables) is holds,
)

-- a refusal of the generated machine file
pub made_unfit : (n : ℕ) (read told : Option Files) (tables : Tables) (status : Status) → read ≡ Some (file_named (made_files n)) → IsMeant read (codes "conf") tables
    → ReadsMachine read (codes "mach") tables (std.Err status) → status ≢ ReadFault → Reads (Some (load n)) told (std.Err status)
made_unfit n read told tables (MachineRefused line code) is meant why quiet =
    made_boots (λ files name tables. IsDescribed files name tables (std.Err (line, code))) n read told tables is meant why
made_unfit n read told tables (Absent absent) is meant why quiet =
    inl (made_boots (λ files name tables. (absent ≡ name) × IsLacking files name) n read told tables is meant why)
made_unfit n read told tables (TooLong long) is meant why quiet =
    inl (made_boots (λ files name tables. (long ≡ name) × IsLong files name) n read told tables is meant why)
made_unfit n read told tables ReadFault is meant why quiet = absurd (quiet refl)
made_unfit n read told tables Memory is meant why quiet = tt
made_unfit n read told tables Ok is meant why quiet = elim why [ ]
made_unfit n read told tables (ConfigRefused file line code) is meant why quiet = elim why [ ]
made_unfit n read told tables (ScriptRefused which line code) is meant why quiet = elim why [ ]
made_unfit n read told tables Usage is meant why quiet = elim why [ ]
made_unfit n read told tables WriteFault is meant why quiet = elim why [ ]
made_unfit n read told tables (HistoryRefused line) is meant why quiet = elim why [ ]
made_unfit n read told tables (Stuck waits) is meant why quiet = elim why [ ]
made_unfit n read told tables (Worlds most) is meant why quiet = elim why [ ]
made_unfit n read told tables (Unknown name) is meant why quiet = elim why [ ]

-- the inputs of generated files
pub made_read : (n : ℕ) (read told : Option Files) (tables : Tables) (machine : Machine) → read ≡ Some (file_named (made_files n)) → IsMeant read (codes "conf") tables
    → IsDescribed read (codes "mach") tables (std.Ok machine) → Reads (Some (load n)) told (std.Ok (Load n tables machine))
made_read n read told tables machine is meant described = (
  refl,
  (
    subst (λ (files : Option Files). IsMeant files (codes "conf") tables) is meant,
    subst (λ (files : Option Files). IsDescribed files (codes "mach") tables (std.Ok machine)) is described,
  ),
)

-- where no reading failed, the count of faults is as before
pub counts_quiet : (n : ℕ) (answer : Result Inputs Status) → answer ≢ std.Err ReadFault → Counts n n answer
counts_quiet n (std.Ok inputs) quiet = refl
counts_quiet n (std.Err Ok) quiet = refl
counts_quiet n (std.Err (ConfigRefused file line code)) quiet = refl
counts_quiet n (std.Err Usage) quiet = refl
counts_quiet n (std.Err (MachineRefused line code)) quiet = refl
counts_quiet n (std.Err (ScriptRefused which line code)) quiet = refl
counts_quiet n (std.Err (HistoryRefused line)) quiet = refl
counts_quiet n (std.Err (Stuck waits)) quiet = refl
counts_quiet n (std.Err (Worlds most)) quiet = refl
counts_quiet n (std.Err (Unknown name)) quiet = refl
counts_quiet n (std.Err (Absent name)) quiet = refl
counts_quiet n (std.Err (TooLong name)) quiet = refl
counts_quiet n (std.Err ReadFault) quiet = absurd (quiet refl)
counts_quiet n (std.Err WriteFault) quiet = refl
counts_quiet n (std.Err Memory) quiet = refl
