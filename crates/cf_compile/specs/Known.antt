-- A configuration together with its statements.
use Rattle.std.specs.Prelude.{◌≡◌, ℕ, Bool, false, List, [], map, Option, Some, None, IfSome, Result, Ok, Err, ⊤}
use Rattle.cf_types.specs.declared.instance.Instance.{Instance}
use Rattle.cf_types.specs.declared.stmt.Placed.{Placed}
use Rattle.config_rules.specs.Declared.{Declared, declared}
use Rattle.config_rules.specs.Fault.{fault_in, stmts_of}
use Rattle.config_rules.specs.Meaning.{Means, inst_of, marked, surviving}
use Rattle.config_rules.specs.Reading.{Files, Reading, reading}
use Rattle.config_rules.specs.Select.{RootedInsts}
use Rattle.cf_compile.specs.Compiles.{Compiles}
use Rattle.cf_compile.specs.Meant.{IsMeant}
use Rattle.cf_compile.specs.declared.known.Known.{Known}
use Rattle.cf_compile.specs.declared.stop.CompileStop.{CompileStop}
use Rattle.cf_compile.specs.declared.stop.CompileStop.TheVariants.{Refused, ReadFault, Memory}

-- the places of those of these instances that no chain of parents leads to the root
pub record AreOrphansIn (d : Declared) (insts : List Instance) (orphans : List ℕ) : Type 0 where
  pub marks : List Bool
  pub rooted : RootedInsts d (map inst_of insts) marks
  pub places : orphans ≡ map (λ i. i.stmt) (marked false insts marks)

-- the orphans among the surviving instances of these statements
abbrev pub AreOrphans : List Placed → List ℕ → Type 0
AreOrphans placed orphans = AreOrphansIn (declared (stmts_of placed)) (surviving [] (stmts_of placed)) orphans

-- the tables are what the configuration means, with its statements, files and orphans
pub record IsKnown (files : Files) (name : List ℕ) (known : Known) : Type 0 where
  pub means : Means files name known.tables
  pub placed : known.placed ≡ (reading files name).placed
  pub names : known.files ≡ (reading files name).files
  pub orphans : AreOrphans known.placed known.orphans

-- the same of what was read, where there is no fault, or else the first
abbrev pub FindsKnown : Reading → Result Known CompileStop → Type 0
FindsKnown r (Ok known) = (fault_in r ≡ None) × IsMeant r.files r.placed known.tables × (known.placed ≡ r.placed) × (known.files ≡ r.files) × AreOrphans r.placed known.orphans
FindsKnown r (Err (Refused refusal)) = fault_in r ≡ Some refusal
FindsKnown r (Err ReadFault) = ⊥
FindsKnown r (Err Memory) = ⊤

-- how compiling a configuration ends where its statements are kept
abbrev pub Knows : Option Files → List ℕ → ℕ → ℕ → Result Known CompileStop → Type 0
Knows told name before after (Ok known) = IfSome told (λ files. IsKnown files name known) × (after ≡ before)
Knows told name before after (Err stop) = Compiles told name before after (Err stop)
