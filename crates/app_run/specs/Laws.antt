-- A history that `drvrun` printed is taken by who reads it again.
use Rattle.std.specs.Prelude.{ℕ, List}
use Rattle.cf_types.specs.declared.machine.Command.{Command}
use Rattle.cf_types.specs.declared.machine.Machine.{Machine}
use Rattle.cf_types.specs.declared.machine.Ticket.{Ticket}
use Rattle.cf_types.specs.declared.tables.Tables.{Tables}
use Rattle.config_rules.specs.Meaning.{Means}
use Rattle.config_rules.specs.Reading.{Files}
use Rattle.replay_laws.specs.OneLine.{IsOneLine}
use Rattle.replay_laws.specs.Taken.{Takes}
use Rattle.run_rules.specs.declared.event.Event.{Event}
use Rattle.run_rules.specs.World.{World, setup_of}
use Rattle.app_input.specs.Inputs.{FormedInputs}
use Rattle.app_input.specs.declared.inputs.Inputs.TheVariants.{Run}
use Rattle.app_output.specs.RunText.{run_text}
use Rattle.app_run.specs.Ran.{RanTogether}

-- the text of a run of scripts side by side, to their end or until they stand still, by an accepted configuration whose name has no
-- newline, is taken as the history of this run, so that it leads to the tree that the text ends with
abbrev pub TakesPrinted : (Ticket → Type 0) → Type 0
TakesPrinted carried =
    (files : Files) (name : List ℕ) (tables : Tables) (machine : Machine) (scripts : List (List Command)) (h : List Event) (w : World) → Means files name tables → IsOneLine name
    → FormedInputs (Run tables machine scripts) → RanTogether carried (setup_of tables machine scripts) h w
    → Takes (setup_of tables machine scripts) (run_text tables h w) h w
