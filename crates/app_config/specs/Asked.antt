-- The text that the words and the files ask for.
use Rattle.std.specs.Prelude.{◌≡◌, ℕ, Option, IfSome, List, [], ◌++◌}
use Rattle.std.specs.Prelude as std
use Rattle.cf_types.specs.Lines.{text_of}
use Rattle.cf_types.specs.declared.machine.Command.{Command}
use Rattle.cf_types.specs.declared.machine.Machine.{Machine}
use Rattle.cf_types.specs.declared.tables.Tables.{Tables}
use Rattle.config_rules.specs.Listing.{listing}
use Rattle.config_rules.specs.Reading.{Files}
use Rattle.file_rules.specs.Sources.{Selects}
use Rattle.boot_laws.specs.Thorough.{IsThorough}
use Rattle.dev_monitor.specs.declared.reading.Reading.{Reading}
use Rattle.history_laws.specs.Reliable.{IsReliable}
use Rattle.live_rules.specs.declared.plan.Plan.{Plan}
use Rattle.live_rules.specs.LiveText.{live_texts}
use Rattle.live_run.specs.Told.{site_of}
use Rattle.replay_laws.specs.Taken.{Takes}
use Rattle.run_rules.specs.declared.event.Event.{Event}
use Rattle.run_rules.specs.declared.world.Setup.{Setup}
use Rattle.run_rules.specs.Lines.{lines}
use Rattle.run_rules.specs.Run as run
use Rattle.run_rules.specs.Tree.{tree_text}
use Rattle.run_rules.specs.World.{World, opening, setup_of}
use Rattle.script_text.specs.declared.watch_line.WatchLine.{WatchLine}
use Rattle.app_input.specs.Inputs.{FormedInputs, Reads}
use Rattle.app_words.specs.Words.{Form}
use Rattle.app_input.specs.declared.inputs.Inputs.{Inputs}
use Rattle.app_input.specs.declared.inputs.Inputs.TheVariants as input
use Rattle.app_output.specs.NoteText.{watch_text}
use Rattle.app_output.specs.RunText.{run_text}
use Rattle.app_tasks.specs.Ran.{IsPlayed}
use Rattle.app_tasks.specs.Summary.{IsSummary}
use Rattle.app_tasks.specs.Watched.{IsWatched}

-- the paths of the sources that a configuration selects, one a line
abbrev pub IsSelection : Files → List ℕ → List ℕ → Type 0
IsSelection files name text = (paths : List (List ℕ)) × Selects files name paths × (text ≡ text_of paths)

-- the text of the boot of a machine by the tables; in its history no device is freed before its references are returned
-- and its children are freed; it has no more events than such a run may have, and the boot left nothing out
abbrev pub IsBootText : Tables → Machine → List ℕ → Type 0
IsBootText tables machine text =
    (h : List Event) × (w : World) × run.Boot (opening (setup_of tables machine [])) h w × IsReliable h w × IsThorough h w × (text ≡ run_text tables h w)

-- the text of a boot and of the turns of an order after it, and the same holds of its history
abbrev pub IsPlayedText : Tables → Machine → List (List Command) → List ℕ → List ℕ → Type 0
IsPlayedText tables machine scripts order text =
    (h : List Event) × (w : World) × IsPlayed (setup_of tables machine scripts) order h w × IsReliable h w × IsThorough h w × (text ≡ run_text tables h w)

-- the text of what the lines of a watch file do from the opening world on, and of what is read; the same holds of its history
abbrev pub IsWatchedText : Tables → Machine → List (List Command) → List WatchLine → List ℕ → Type 0
IsWatchedText tables machine scripts watch text =
    (h : List Event) × (w : World) × (told : List Reading)
    × IsWatched (setup_of tables machine scripts) watch h w told × IsReliable h w × IsThorough h w × (text ≡ watch_text tables h w told)

-- the listing of the tables, and the lines of a plan that is followed on the machine: the head, each command with its reply and its
-- lines, and the device tree that is left
abbrev pub follow_text : Tables → Machine → Plan → List ℕ
follow_text tables machine plan = listing tables ++ text_of (live_texts (site_of tables machine plan) plan.commands)

-- the text of what a history is taken as, by its events and the world that they lead to; the same holds of these events
abbrev pub IsTakenText : (List Event → World → List ℕ) → Setup → List ℕ → List ℕ → Type 0
IsTakenText text_by setup history text = (h : List Event) × (w : World) × Takes setup history h w × IsReliable h w × IsThorough h w × (text ≡ text_by h w)

-- the tree alone
abbrev pub replay_text : List Event → World → List ℕ
replay_text h w = tree_text w

-- the history in format 2, and the tree
abbrev pub upgrade_text : List Event → World → List ℕ
upgrade_text h w = lines h ++ tree_text w

-- the text that these inputs ask for, where the files are told if it is that of the sources; scripts side by side are another
-- program's
unfoldable pub IsAskedText : Option Files → Inputs → List ℕ → Type 0
IsAskedText told (input.Ioconf tables) text = text ≡ listing tables
IsAskedText told (input.Files name) text = IfSome told (λ files. IsSelection files name text)
IsAskedText told (input.Boot tables machine) text = IsBootText tables machine text
IsAskedText told (input.Load n tables machine) text = IsSummary n tables machine text
IsAskedText told (input.Play tables machine scripts order) text = IsPlayedText tables machine scripts order text
IsAskedText told (input.Replay tables machine scripts history) text = IsTakenText replay_text (setup_of tables machine scripts) history text
IsAskedText told (input.Upgrade tables machine scripts history) text = IsTakenText upgrade_text (setup_of tables machine scripts) history text
IsAskedText told (input.Watch tables machine scripts watch) text = IsWatchedText tables machine scripts watch text
IsAskedText told (input.Follow tables machine plan) text = text ≡ follow_text tables machine plan
IsAskedText told (input.Run tables machine scripts) text = ⊥

-- the words and the files give inputs, which are formed and ask for the text
pub record Asks (form : Option Form) (told : Option Files) (text : List ℕ) : Type 0 where
  pub inputs : Inputs
  pub read : Reads form told (std.Ok inputs)
  pub formed : FormedInputs inputs
  pub asked : IsAskedText told inputs text
