-- What was found for the inputs, its text, and why nothing was found.
use Rattle.std.specs.Prelude.{◌≡◌, ℕ, ◌++◌, ◌⊎◌, Option, IfSome, Result, List, ⊤}
use Rattle.std.specs.Prelude as std
use Rattle.cf_types.specs.Lines.{text_of}
use Rattle.config_rules.specs.Listing.{listing}
use Rattle.config_rules.specs.Reading.{Files}
use Rattle.file_rules.specs.Sources.{IsFirstFault}
use Rattle.run_rules.specs.Lines.{lines}
use Rattle.run_rules.specs.World.{setup_of}
use Rattle.app_input.specs.Inputs.{Reads}
use Rattle.app_words.specs.Words.{Form}
use Rattle.app_input.specs.declared.inputs.Inputs.{Inputs}
use Rattle.app_input.specs.declared.inputs.Inputs.TheVariants as input
use Rattle.app_words.specs.declared.status.Status.{Status}
use Rattle.app_words.specs.declared.status.Status.TheVariants.{ConfigRefused, ReadFault, Memory}
use Rattle.app_output.specs.NoteText.{watch_text}
use Rattle.app_output.specs.RunText.{run_text, tree_of}
use Rattle.app_tasks.specs.Retold.{Untaken}
use Rattle.app_config.specs.Asked.{Asks, IsAskedText}
use Rattle.app_config.specs.declared.found.Found.{Found}
use Rattle.app_config.specs.declared.found.Found.TheVariants.{Listed, Selected, Ran, Watched, Followed, Line, Tree, Retold}

-- the listing; or the paths, one a line; or the listing, the history and the tree, maybe with what was read; or the listing and the
-- lines of a plan; or the line; or the tree, or a history with
-- its tree
abbrev pub found_text : Found → List ℕ
found_text (Listed tables) = listing tables
found_text (Selected paths) = text_of paths
found_text (Ran board) = run_text board.world.setup.tables board.events board.world
found_text (Watched run) = watch_text run.board.world.setup.tables run.board.events run.board.world run.readings
found_text (Followed run) = listing run.tables ++ text_of run.lines
found_text (Line line) = line.items
found_text (Tree run) = tree_of run.told.tree
found_text (Retold run) = lines run.told.events ++ tree_of run.told.tree

-- why the sources of a configuration were not selected: its first fault, or a fault of reading
abbrev pub Unselected : Option Files → List ℕ → Status → Type 0
Unselected told name (ConfigRefused file line code) = IfSome told (λ files. IsFirstFault files name (record { file = file; line = line; code = code }))
Unselected told name ReadFault = ⊤
Unselected told name status = ⊥

-- why nothing was found for the inputs: their sources were not selected, or their history was not taken
abbrev pub Unfound : Option Files → Inputs → Status → Type 0
Unfound told (input.Files name) status = Unselected told name status
Unfound told (input.Replay tables machine scripts history) status = Untaken (setup_of tables machine scripts) history status
Unfound told (input.Upgrade tables machine scripts history) status = Untaken (setup_of tables machine scripts) history status
Unfound told asked status = ⊥

-- what was found for the inputs has the text that they ask for
abbrev pub FindsFor : Option Files → Inputs → Result Found Status → Type 0
FindsFor told asked (std.Ok found) = IsAskedText told asked (found_text found)
FindsFor told asked (std.Err status) = (status ≡ Memory) ⊎ Unfound told asked status

-- why the words and the files are refused: while the inputs are read, or behind that
abbrev pub IsRefused : Option Form → Option Files → Status → Type 0
IsRefused form told status = Reads form told (std.Err status) ⊎ ((asked : Inputs) × Reads form told (std.Ok asked) × Unfound told asked status)

-- what was found for the words and the files has the text that they ask for
abbrev pub Finds : Option Form → Option Files → Result Found Status → Type 0
Finds form told (std.Ok found) = Asks form told (found_text found)
Finds form told (std.Err status) = IsRefused form told status
