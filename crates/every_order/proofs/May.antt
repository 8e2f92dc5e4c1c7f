-- What a run may go by: formed tables, a fitting machine and at most 16 formed scripts.
use Rattle.std.proofs.Common.{◌≤◌, List, length}
use Rattle.std.specs.Prelude.{All}
use Rattle.std.proofs.lemmas.List.Elements.{recursion_from_All}
use Rattle.cf_types.specs.declared.machine.Command.{Command}
use Rattle.cf_types.specs.declared.machine.Machine.{Machine}
use Rattle.cf_types.specs.declared.tables.Tables.{Tables}
use Rattle.config_rules.specs.Formed.{FittingMachine, FormedTables}
use Rattle.config_rules.specs.ScriptText.{FormedScript}
use Rattle.run_rules.specs.World.{setup_of}
use Rattle.run_rules.proofs.Devices.{all_imp}
use Rattle.run_sound.specs.Kept.{MayRun}

pub may_run : (t : Tables) (m : Machine) (scripts : List (List Command)) → FormedTables t → FittingMachine t m → length scripts ≤ 16 → All FormedScript scripts → MayRun (setup_of t m scripts)
may_run t m scripts tables machine few formed = record {
  tables = tables;
  machine = machine;
  few_scripts = few;
  short_scripts = all_imp FormedScript (λ (script : List Command). length script ≤ 500) (λ script f. f.few) scripts (recursion_from_All FormedScript scripts formed);
}
