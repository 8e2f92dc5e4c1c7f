-- What is taken as a history may be relied on.
use Rattle.std.proofs.Common.{◌≤◌, ℕ, List, length, subst, sym}
use Rattle.std.specs.Prelude.{All, IfOk}
use Rattle.std.specs.declared.result.Result.{Result}
use Rattle.std.specs.declared.result.Result.TheVariants.{Ok, Err}
use Rattle.std.proofs.lemmas.List.Elements.{recursion_from_All}
use Rattle.cf_types.specs.declared.machine.Command.{Command}
use Rattle.cf_types.specs.declared.machine.Machine.{Machine}
use Rattle.cf_types.specs.declared.tables.Tables.{Tables}
use Rattle.config_rules.specs.Formed.{FittingMachine, FormedTables}
use Rattle.config_rules.specs.ScriptText.{FormedScript}
use Rattle.run_rules.specs.declared.world.Setup.{Setup}
use Rattle.run_rules.specs.Laws.{Lawful}
use Rattle.run_rules.specs.Reread.{reread}
use Rattle.run_rules.specs.World.{opening, setup_of}
use Rattle.run_rules.proofs.Devices.{all_imp}
use Rattle.run_sound.specs.Kept.{MayRun}
use Rattle.history_laws.specs.Tells.{TellsTree}
use Rattle.replay_laws.proofs.Taken.{runs_taken}
use Rattle.history_replay.specs.declared.history.Replayed.{Replayed}
use Rattle.history_replay.specs.declared.history.ReplayStop.{ReplayStop}
use Rattle.history_replay.specs.Stops.{IsReliableTree, IsReplay}

-- formed tables, a fitting machine and at most 16 formed scripts
pub may_replay : (t : Tables) (m : Machine) (scripts : List (List Command)) → FormedTables t → FittingMachine t m → length scripts ≤ 16 → All FormedScript scripts → MayRun (setup_of t m scripts)
may_replay t m scripts tables machine few formed = record {
  tables = tables;
  machine = machine;
  few_scripts = few;
  short_scripts = all_imp FormedScript (λ (script : List Command). length script ≤ 500) (λ script f. f.few) scripts (recursion_from_All FormedScript scripts formed);
}

pub lawful_told : (s : Setup) (text : List ℕ) (r : Result Replayed ReplayStop) → MayRun s → IsReplay (reread (opening s) text) r → IfOk r (λ told. Lawful told.events)
lawful_told s text (Ok told) may h = (runs_taken s text told.events h.0 may h.1).1.lawful
lawful_told s text (Err stop) may h = tt

tree_told : (s : Setup) (text : List ℕ) (told : Replayed) → MayRun s → IsReplay (reread (opening s) text) (Ok told) → TellsTree told.events told.tree
tree_told s text told may h = subst (TellsTree told.events) (sym h.2) (runs_taken s text told.events h.0 may h.1).1.tree

pub tree_tells : (s : Setup) (text : List ℕ) (r : Result Replayed ReplayStop) → MayRun s → IsReplay (reread (opening s) text) r → IfOk r (λ told. TellsTree told.events told.tree)
tree_tells s text (Ok told) may h = tree_told s text told may h
tree_tells s text (Err stop) may h = tt

pub reliable_tree : (s : Setup) (text : List ℕ) (told : Replayed) → MayRun s → IsReplay (reread (opening s) text) (Ok told) → IsReliableTree s text told.tree
reliable_tree s text told may h = (told.events, h.0, h.1, (runs_taken s text told.events h.0 may h.1).1, h.2)
