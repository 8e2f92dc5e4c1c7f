-- What a board that was handed out has done, the turns behind its boot, and the line of its numbers.
use Rattle.std.proofs.Common.{◌≡◌, ℕ, ◌≤◌, List, [], sym, ◌∙◌, subst, length, arith}
use Rattle.std.specs.Global.{Global}
use Rattle.std.specs.Prelude.{All, IfOk, Result, Vec}
use Rattle.std.specs.Prelude as std
use Rattle.std.proofs.lemmas.List.Elements.{All-nil, recursion_from_All}
use Rattle.std.specs.List.{AllByRecursion}
use Rattle.cf_types.specs.Lines.{ended}
use Rattle.cf_types.specs.declared.machine.Command.{Command}
use Rattle.cf_types.specs.declared.machine.Machine.{Machine}
use Rattle.cf_types.specs.declared.tables.Tables.{Tables}
use Rattle.config_rules.specs.Formed.{FittingMachine, FormedTables}
use Rattle.config_rules.specs.ScriptText.{FormedScript}
use Rattle.boot_laws.specs.Thorough.{IsThorough}
use Rattle.boot_laws.proofs.Thorough.{thorough}
use Rattle.history_laws.specs.Reliable.{IsReliable}
use Rattle.ref_ledger.specs.declared.state.SlotState.{SlotState}
use Rattle.run_rules.specs.declared.world.Setup.{Setup}
use Rattle.run_rules.specs.World.{setup_of}
use Rattle.run_rules.proofs.Devices.{all_imp}
use Rattle.dev_board.specs.Booting.{IsStarted}
use Rattle.dev_board.specs.Playing.{Plays}
use Rattle.dev_board.specs.Shown.{Shown}
use Rattle.dev_board.proofs.ScriptedLaws.{scripts_may}
use Rattle.dev_board.proofs.TurnLaws.{plays_setup}
use Rattle.app_tasks.specs.Ran.{IsBootOf, IsPlayOf}
use Rattle.app_tasks.specs.Summary.{IsSummary, summary}

pub boot_of : (tables : Tables) (machine : Machine) (scripts : List (List Command)) (b : Shown) (slots : List SlotState)
    → FormedTables tables → FittingMachine tables machine → scripts ≡ [] → IsStarted (setup_of tables machine scripts) b slots → IsBootOf (setup_of tables machine []) b
boot_of tables machine scripts b slots formed fits none is =
    let s : Setup = setup_of tables machine [] in
    let started : IsStarted s b slots = subst (λ (cs : List (List Command)). IsStarted (setup_of tables machine cs) b slots) none is in
    record {
      boot = started.boot;
      made = started.setup;
      reliable = started.reliable;
      thorough = thorough s b.events b.world (scripts_may tables machine [] formed fits (omega arith) (All-nil FormedScript)) started.boot.run;
    }

pub play_of : (s : Setup) (b n : Shown) (slots : List SlotState) (order : List ℕ)
    → IsStarted s b slots → Plays b order n → IsReliable n.events n.world → IsThorough n.events n.world → IsPlayOf s order n
play_of s b n slots order is plays reliable thorough = record {
  played = (b.events, b.world, is.boot, plays.events, plays.world);
  made = plays_setup b n order plays ∙ is.setup;
  reliable = reliable;
  thorough = thorough;
}

-- the turns of a play are those of callers of the board
pub callers_of : (tables : Tables) (machine : Machine) (scripts : List (List Command)) (b : Shown) (slots : List SlotState) (order : List ℕ)
    → IsStarted (setup_of tables machine scripts) b slots → All (λ k. (1 ≤ k) × (k ≤ length scripts)) order
    → AllByRecursion (λ k. k ≤ length b.world.setup.scripts) order
callers_of tables machine scripts b slots order is turns =
    subst (λ (s : Setup). AllByRecursion (λ k. k ≤ length s.scripts) order) (sym is.setup)
    (all_imp (λ k. (1 ≤ k) × (k ≤ length scripts)) (λ k. k ≤ length scripts) (λ k within. within.1) order
    (recursion_from_All (λ k. (1 ≤ k) × (k ≤ length scripts)) order turns))

-- the line of numbers of a boot
pub summed : {E : Type 0} (n : ℕ) (tables : Tables) (machine : Machine) (b : Shown) (line : Result (Vec ℕ Global) E) → IsBootOf (setup_of tables machine []) b
    → IfOk line (λ bytes. bytes.items ≡ ended (summary n b.events b.world)) → IfOk line (λ bytes. IsSummary n tables machine bytes.items)
summed n tables machine b (std.Ok bytes) boots is = (b.events, b.world, boots.boot, is)
summed n tables machine b (std.Err stop) boots is = tt
