-- What was printed is taken by who reads it again.
use Rattle.std.specs.Prelude.{◌≡◌, ℕ, List, []}
use Rattle.cf_types.specs.declared.machine.Command.{Command}
use Rattle.cf_types.specs.declared.machine.Machine.{Machine}
use Rattle.cf_types.specs.declared.tables.Tables.{Tables}
use Rattle.config_rules.specs.Meaning.{Means}
use Rattle.config_rules.specs.Reading.{Files}
use Rattle.replay_laws.specs.OneLine.{IsOneLine}
use Rattle.replay_laws.specs.Taken.{Takes}
use Rattle.run_rules.specs.declared.event.Event.{Event}
use Rattle.run_rules.specs.World.{World, setup_of}
use Rattle.app_input.specs.Inputs.{FormedInputs}
use Rattle.app_input.specs.declared.inputs.Inputs.TheVariants.{Boot, Play, Upgrade}
use Rattle.app_output.specs.RunText.{run_text}
use Rattle.app_config.specs.Asked.{IsBootText, IsPlayedText, IsTakenText, upgrade_text}

-- the text of a boot by an accepted configuration whose name has no newline is taken as the history of this boot, so that it leads to the
-- tree that the text ends with
abbrev pub TakesBooted : Type 0
TakesBooted =
    (files : Files) (name : List ℕ) (tables : Tables) (machine : Machine) (text : List ℕ) → Means files name tables → IsOneLine name
    → FormedInputs (Boot tables machine) → IsBootText tables machine text
    → (h : List Event) × (w : World) × (text ≡ run_text tables h w) × Takes (setup_of tables machine []) text h w

-- so is that of a boot and of the turns of an order
abbrev pub TakesPlayed : Type 0
TakesPlayed =
    (files : Files) (name : List ℕ) (tables : Tables) (machine : Machine) (scripts : List (List Command)) (order text : List ℕ) → Means files name tables
    → IsOneLine name → FormedInputs (Play tables machine scripts order) → IsPlayedText tables machine scripts order text
    → (h : List Event) × (w : World) × (text ≡ run_text tables h w) × Takes (setup_of tables machine scripts) text h w

-- the text of a history in format 2, with its tree, is taken as the history that it was made of
abbrev pub TakesUpgraded : Type 0
TakesUpgraded =
    (tables : Tables) (machine : Machine) (scripts : List (List Command)) (history text : List ℕ) → FormedInputs (Upgrade tables machine scripts history)
    → IsTakenText upgrade_text (setup_of tables machine scripts) history text
    → (h : List Event) × (w : World) × Takes (setup_of tables machine scripts) history h w × (text ≡ upgrade_text h w)
    × Takes (setup_of tables machine scripts) text h w
