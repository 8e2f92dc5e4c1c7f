-- The tables of what was read, or its first fault.
use Rattle.std.specs.Prelude.{◌≡◌, ℕ, Bool, List, [], map, Some, None, Result, Ok, Err, ⊤, false, true}
use Rattle.cf_types.specs.declared.instance.Instance.{Instance}
use Rattle.cf_types.specs.declared.stmt.Expanded.{Expanded}
use Rattle.cf_types.specs.declared.stmt.Placed.{Placed}
use Rattle.cf_types.specs.declared.tables.Tables.{Tables}
use Rattle.cf_rows.specs.Rows.{seen}
use Rattle.cf_rows.specs.declared.marks.Split.{Split}
use Rattle.config_rules.specs.Declared.{declared}
use Rattle.cf_types.specs.declared.declared.Declared.{Declared}
use Rattle.config_rules.specs.Fault.{fault_in, stmts_of}
use Rattle.config_rules.specs.Formed.{FormedTables}
use Rattle.config_rules.specs.Meaning as meaning
use Rattle.config_rules.specs.Meaning.{marked, surviving, tables_of}
use Rattle.config_rules.specs.Reading.{Reading}
use Rattle.config_rules.specs.Select.{RootedInsts}
use Rattle.cf_compile.specs.declared.stop.CompileStop.{CompileStop}
use Rattle.cf_compile.specs.declared.stop.CompileStop.TheVariants.{Refused, ReadFault, Memory}

-- files and statements that were read without a fault
abbrev pub read_from : List (List ℕ) → List Placed → Reading
read_from files placed = record { placed = placed; files = files; asked = []; prefixes = []; fault = None }

-- the instances with a mark for each that hangs together with the root, and the places of those with none
pub record IsSplit (d : Declared) (instances : List Instance) (parts : Split) : Type 0 where
  pub marks : List Bool
  pub is_rooted : RootedInsts d (map meaning.inst_of instances) marks
  pub rooted : seen parts.rooted ≡ marked true instances marks
  pub orphans : parts.orphans ≡ map (λ i. i.stmt) (marked false instances marks)

-- the tables of what was read, which are formed
pub record IsMeant (files : List (List ℕ)) (placed : List Placed) (tables : Tables) : Type 0 where
  pub marks : List Bool
  pub rooted : RootedInsts (declared (stmts_of placed)) (map meaning.inst_of (surviving [] (stmts_of placed))) marks
  pub shown : tables ≡ tables_of (read_from files placed) marks
  pub formed : FormedTables tables

-- the tables where there is no fault, or else the first
abbrev pub Finds : Reading → Result Tables CompileStop → Type 0
Finds r (Ok tables) = (fault_in r ≡ None) × IsMeant r.files r.placed tables
Finds r (Err (Refused refusal)) = fault_in r ≡ Some refusal
Finds r (Err ReadFault) = ⊥
Finds r (Err Memory) = ⊤

-- what was read, as a reading
abbrev pub reading_of : Expanded → Reading
reading_of read = record { placed = read.placed; files = read.files; asked = []; prefixes = []; fault = read.fault }
