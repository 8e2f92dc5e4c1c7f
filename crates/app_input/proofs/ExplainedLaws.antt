-- A configuration that was read with its statements.
use Rattle.std.proofs.Common.{◌≡◌, ℕ, List, Option, Some, None, inl, refl, subst, sym}
use Rattle.std.specs.Prelude.{Result, ⊤}
use Rattle.std.specs.Prelude as std
use Rattle.cf_compile.specs.declared.known.Known.{Known}
use Rattle.config_rules.specs.Reading.{Files}
use Rattle.app_input.specs.Explained.{AreKnown, ReadsExplained, given}
use Rattle.app_input.specs.Inputs.{IsMeant, Reads, ReadsMachine}
use Rattle.app_input.specs.declared.explained.Explained.{Explained}
use Rattle.app_input.specs.declared.inputs.Inputs.{Inputs}
use Rattle.app_words.specs.Status.{Counts}
use Rattle.app_words.specs.Words.{Form, HasForm, boot, devwhy_form}
use Rattle.app_words.specs.declared.program.Program.TheVariants.{Devwhy}
use Rattle.app_words.specs.declared.status.Status.{Status}
use Rattle.app_words.specs.declared.status.Status.TheVariants.{Ok, ConfigRefused, Usage, MachineRefused, ScriptRefused, HistoryRefused, Absent, TooLong, ReadFault, WriteFault, Memory, Stuck, Worlds, Unknown}
use Rattle.cf_types.specs.declared.tables.Tables.{Tables}
use Rattle.app_words.specs.declared.words.Words.{Words}
use Rattle.app_words.specs.declared.words.Words.TheVariants as words
use Rattle.app_input.proofs.KindLaws.{IsFormOf, form_fits}

-- where the files are told, the configuration means the tables
pub known_meant : (told : Option Files) (file : List ℕ) (known : Known) → AreKnown told file known → IsMeant told file known.tables
known_meant None file known are = tt
known_meant (Some files) file known are = are.means

-- the count of faults is as the statements or the inputs have it
pub counts_given : (before after : ℕ) (result : Result Explained Status) → Counts before after result → Counts before after (given result)
counts_given before after (std.Ok e) counts = counts
counts_given before after (std.Err status) counts = counts_same status counts
  where
    counts_same : (status : Status) → Counts {A = Explained} before after (std.Err status) → Counts {A = Inputs} before after (std.Err status)
    counts_same status counts = counts

-- the same by what the words were read as
pub explained_words : (form read : Option Form) (told : Option Files) (result : Result Explained Status) → form ≡ read → ReadsExplained read told result → ReadsExplained form told result
explained_words form read told result is reads = subst (λ (f : Option Form). ReadsExplained f told result) (sym is) reads

-- the machine file was refused
pub boot_refused : (told reads : Option Files) (file name : List ℕ) (tables : Tables) (status : Status) → reads ≡ told → IsMeant told file tables
    → ReadsMachine reads name tables (std.Err status) → Reads (Some (boot file name)) told (std.Err status)
boot_refused told reads file name tables status same meant read = by_status status (subst (λ (files : Option Files). ReadsMachine files name tables (std.Err status)) same read)
  where
    by_status : (status : Status) → ReadsMachine told name tables (std.Err status) → Reads (Some (boot file name)) told (std.Err status)
    by_status (MachineRefused line code) read = (boot file name, name, tables, refl, refl, meant, read)
    by_status (Absent absent) read = inl (boot file name, name, tables, refl, refl, meant, read)
    by_status (TooLong long) read = inl (boot file name, name, tables, refl, refl, meant, read)
    by_status ReadFault read = (boot file name, refl, refl)
    by_status Memory read = tt
    by_status Ok read = absurd read
    by_status Usage read = absurd read
    by_status WriteFault read = absurd read
    by_status (ConfigRefused file line code) read = absurd read
    by_status (ScriptRefused which line code) read = absurd read
    by_status (HistoryRefused line) read = absurd read
    by_status (Stuck waits) read = absurd read
    by_status (Worlds most) read = absurd read
    by_status (Unknown name) read = absurd read

-- the words name a configuration, or this and a machine
abbrev pub IsNamed : Words → Type 0
IsNamed (words.Ioconf file) = ⊤
IsNamed (words.Boot file machine) = ⊤
IsNamed _ = ⊥

pub names_only : (given : List (List ℕ)) (read : Words) → HasForm (devwhy_form given) (std.Ok read) → IsNamed read
names_only given (words.Ioconf file) has = tt
names_only given (words.Boot file machine) has = tt
names_only given (words.Files file) has = subst (IsFormOf Devwhy) has (form_fits Devwhy given)
names_only given (words.Follow file machine plan) has = subst (IsFormOf Devwhy) has (form_fits Devwhy given)
names_only given (words.Load count) has = subst (IsFormOf Devwhy) has.0 (form_fits Devwhy given)
names_only given (words.Scripted task file machine course scripts) has = subst (IsFormOf Devwhy) has.0 (form_fits Devwhy given)
names_only given (words.Run file machine scripts) has = subst (IsFormOf Devwhy) has.0 (form_fits Devwhy given)
