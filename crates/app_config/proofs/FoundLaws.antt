-- What was found for the inputs has the text that they ask for.
use Rattle.std.proofs.Common.{inl, inr, ◌≡◌, ℕ, ◌++◌, List, [], Option, Some, None, refl, sym, ap, ◌∙◌, subst}
use Rattle.std.specs.Prelude.{◌⊎◌, IfSome, IsErrAnd, Result}
use Rattle.cf_types.specs.Lines.{text_of}
use Rattle.std.specs.Prelude as std
use Rattle.cf_types.specs.declared.machine.Command.{Command}
use Rattle.cf_types.specs.declared.machine.Machine.{Machine}
use Rattle.cf_types.specs.declared.tables.Tables.{Tables}
use Rattle.config_rules.specs.Reading.{Files}
use Rattle.dev_board.specs.Shown.{Shown}
use Rattle.cf_compile.specs.declared.stop.CompileStop.{CompileStop}
use Rattle.cf_compile.specs.declared.stop.CompileStop.TheVariants as compile
use Rattle.file_rules.specs.Sources.{Selects}
use Rattle.file_select.specs.Answers.{SelectsFrom}
use Rattle.run_rules.specs.declared.world.Setup.{Setup}
use Rattle.history_replay.specs.declared.history.Replayed.{Replayed}
use Rattle.run_rules.specs.Lines.{lines}
use Rattle.run_rules.specs.World.{setup_of}
use Rattle.app_input.specs.Inputs.{FormedInputs, Reads}
use Rattle.app_words.specs.Status.{Counts}
use Rattle.app_input.specs.Stop.{status_of_stop}
use Rattle.app_words.specs.Words.{Form}
use Rattle.app_input.specs.declared.inputs.Inputs.{Inputs}
use Rattle.app_input.specs.declared.inputs.Inputs.TheVariants as input
use Rattle.app_words.specs.declared.status.Status.{Status}
use Rattle.app_words.specs.declared.status.Status.TheVariants.{Ok, ConfigRefused, Usage, MachineRefused, ScriptRefused, HistoryRefused, Absent, TooLong, ReadFault, WriteFault, Memory, Stuck, Worlds, Unknown}
use Rattle.app_output.proofs.RunLaws.{tree_is}
use Rattle.app_output.specs.NoteText.{watch_text}
use Rattle.app_output.specs.RunText.{run_text, tree_of}
use Rattle.app_config.specs.Asked.{IsAskedText}
use Rattle.app_tasks.specs.Ran.{IsBootOf, IsPlayOf, IsPlayed}
use Rattle.app_tasks.specs.Retold.{Retells, Untaken}
use Rattle.app_tasks.specs.Summary.{IsSummary}
use Rattle.app_tasks.specs.Watched.{IsWatchOf, IsWatched}
use Rattle.live_rules.specs.declared.plan.Plan.{Plan}
use Rattle.live_rules.specs.LiveText.{live_texts}
use Rattle.live_run.specs.Told.{site_of}
use Rattle.dev_monitor.specs.declared.reading.Reading.{Reading}
use Rattle.script_text.specs.declared.watch_line.WatchLine.{WatchLine}
use Rattle.app_config.specs.Found.{FindsFor, Finds, Unfound, Unselected}
use Rattle.app_config.specs.declared.found.Found.{Found}
use Rattle.config_rules.specs.Listing.{listing}

pub listed : (told : Option Files) (asked : Inputs) (tables : Tables) → asked ≡ input.Ioconf tables → IsAskedText told asked (listing tables)
unfolding IsAskedText
listed told asked tables is = subst (λ (i : Inputs). IsAskedText told i (listing tables)) (sym is) refl

pub selected : (told : Option Files) (asked : Inputs) (name given : List ℕ) (paths : List (List ℕ)) → asked ≡ input.Files name → given ≡ name
    → IfSome told (λ files. Selects files given paths) → IsAskedText told asked (text_of paths)
unfolding IsAskedText
selected None asked name given paths is same selects = subst (λ (i : Inputs). IsAskedText None i (text_of paths)) (sym is) tt
selected (Some files) asked name given paths is same selects =
    subst (λ (i : Inputs). IsAskedText (Some files) i (text_of paths)) (sym is)
    (paths, subst (λ (n : List ℕ). Selects files n paths) same selects, refl)

pub boot_ran : (told : Option Files) (asked : Inputs) (tables : Tables) (machine : Machine) (b : Shown) → asked ≡ input.Boot tables machine
    → IsBootOf (setup_of tables machine []) b → IsAskedText told asked (run_text b.world.setup.tables b.events b.world)
unfolding IsAskedText
boot_ran told asked tables machine b is boots =
    subst (λ (i : Inputs). IsAskedText told i (run_text b.world.setup.tables b.events b.world)) (sym is)
    (b.events, b.world, boots.boot, boots.reliable, boots.thorough, ap (λ (s : Setup). run_text s.tables b.events b.world) boots.made)

pub play_ran : (told : Option Files) (asked : Inputs) (tables : Tables) (machine : Machine) (scripts : List (List Command)) (order turns : List ℕ) (b : Shown)
    → asked ≡ input.Play tables machine scripts order → turns ≡ order → IsPlayOf (setup_of tables machine scripts) turns b
    → IsAskedText told asked (run_text b.world.setup.tables b.events b.world)
unfolding IsAskedText
play_ran told asked tables machine scripts order turns b is same plays =
    subst (λ (i : Inputs). IsAskedText told i (run_text b.world.setup.tables b.events b.world)) (sym is) (
      b.events,
      b.world,
      subst (λ (ts : List ℕ). IsPlayed (setup_of tables machine scripts) ts b.events b.world) same plays.played,
      plays.reliable,
      plays.thorough,
      ap (λ (s : Setup). run_text s.tables b.events b.world) plays.made,
    )

pub watch_ran : (told : Option Files) (asked : Inputs) (tables : Tables) (machine : Machine) (scripts : List (List Command)) (watch lines : List WatchLine) (said : List Reading) (b : Shown)
    → asked ≡ input.Watch tables machine scripts watch → lines ≡ watch → IsWatchOf (setup_of tables machine scripts) lines said b
    → IsAskedText told asked (watch_text b.world.setup.tables b.events b.world said)
unfolding IsAskedText
watch_ran told asked tables machine scripts watch lines said b is same watches =
    subst (λ (i : Inputs). IsAskedText told i (watch_text b.world.setup.tables b.events b.world said)) (sym is) (
      b.events,
      b.world,
      said,
      subst (λ (ls : List WatchLine). IsWatched (setup_of tables machine scripts) ls b.events b.world said) same watches.watched,
      watches.reliable,
      watches.thorough,
      ap (λ (s : Setup). watch_text s.tables b.events b.world said) watches.made,
    )

pub follow_ran : (told : Option Files) (asked : Inputs) (tables given : Tables) (machine : Machine) (plan : Plan) (lines : List (List ℕ)) → asked ≡ input.Follow tables machine plan → given ≡ tables
    → lines ≡ live_texts (site_of tables machine plan) plan.commands → IsAskedText told asked (listing given ++ text_of lines)
unfolding IsAskedText
follow_ran told asked tables given machine plan lines is same told_so =
    subst (λ (i : Inputs). IsAskedText told i (listing given ++ text_of lines)) (sym is)
    (ap (λ (t : Tables). listing t ++ text_of lines) same ∙ ap (λ (ls : List (List ℕ)). listing tables ++ text_of ls) told_so)

pub load_ran : (told : Option Files) (asked : Inputs) (n : ℕ) (tables : Tables) (machine : Machine) (line : List ℕ) → asked ≡ input.Load n tables machine
    → IsSummary n tables machine line → IsAskedText told asked line
unfolding IsAskedText
load_ran told asked n tables machine line is sums = subst (λ (i : Inputs). IsAskedText told i line) (sym is) sums

-- ---- why nothing was found

-- the sources were not selected
unselected : (told : Option Files) (name : List ℕ) (before after : ℕ) (stop : CompileStop) → SelectsFrom told name before after (std.Err stop)
    → (status_of_stop stop ≡ Memory) ⊎ Unselected told name (status_of_stop stop)
unselected told name before after (compile.Refused refusal) why = inr why.0
unselected told name before after compile.ReadFault why = inr tt
unselected told name before after compile.Memory why = inl refl

unfound : (told : Option Files) (asked given : Inputs) (status : Status) → asked ≡ given → (status ≡ Memory) ⊎ Unfound told given status → (status ≡ Memory) ⊎ Unfound told asked status
unfound told asked given status is why = subst (λ (i : Inputs). (status ≡ Memory) ⊎ Unfound told i status) (sym is) why

pub not_selected : (told : Option Files) (asked : Inputs) (name given : List ℕ) (before after : ℕ) (stop : CompileStop) (result : Result Found Status) → asked ≡ input.Files name → given ≡ name
    → IsErrAnd result (λ status. status ≡ status_of_stop stop) → SelectsFrom told given before after (std.Err stop) → FindsFor told asked result
not_selected told asked name given before after stop (std.Ok found) is same came why = absurd came
not_selected told asked name given before after stop (std.Err status) is same came why =
    subst (λ (s : Status). (s ≡ Memory) ⊎ Unfound told asked s) (sym came)
    (unfound told asked (input.Files name) (status_of_stop stop) is
    (unselected told name before after stop (subst (λ (n : List ℕ). SelectsFrom told n before after (std.Err stop)) same why)))

stop_counted : (told : Option Files) (name : List ℕ) (before after : ℕ) (stop : CompileStop) → SelectsFrom told name before after (std.Err stop)
    → Counts {A = Found} before after (std.Err (status_of_stop stop))
stop_counted told name before after (compile.Refused refusal) why = why.1
stop_counted told name before after compile.ReadFault why = why
stop_counted told name before after compile.Memory why = why

pub not_selected_counted : (told : Option Files) (name : List ℕ) (before after : ℕ) (stop : CompileStop) (result : Result Found Status)
    → IsErrAnd result (λ status. status ≡ status_of_stop stop) → SelectsFrom told name before after (std.Err stop) → Counts before after result
not_selected_counted told name before after stop (std.Ok found) came why = absurd came
not_selected_counted told name before after stop (std.Err status) came why =
    subst (λ (s : Status). Counts {A = Found} before after (std.Err s)) (sym came) (stop_counted told name before after stop why)

-- ---- a history

-- what it tells, as its tree
pub tree_retold : (told : Option Files) (asked : Inputs) (tables : Tables) (machine : Machine) (scripts : List (List Command)) (history : List ℕ) (replayed : Replayed)
    → asked ≡ input.Replay tables machine scripts history → Retells (setup_of tables machine scripts) history (std.Ok replayed) → IsAskedText told asked (tree_of replayed.tree)
unfolding IsAskedText
tree_retold told asked tables machine scripts history replayed is (w, takes, reliable, thorough, tree) =
    subst (λ (i : Inputs). IsAskedText told i (tree_of replayed.tree)) (sym is) (replayed.events, w, takes, reliable, thorough, tree_is w replayed.tree tree)

-- what it tells, whole
pub history_retold : (told : Option Files) (asked : Inputs) (tables : Tables) (machine : Machine) (scripts : List (List Command)) (history : List ℕ) (replayed : Replayed)
    → asked ≡ input.Upgrade tables machine scripts history → Retells (setup_of tables machine scripts) history (std.Ok replayed)
    → IsAskedText told asked (lines replayed.events ++ tree_of replayed.tree)
unfolding IsAskedText
history_retold told asked tables machine scripts history replayed is (w, takes, reliable, thorough, tree) =
    subst (λ (i : Inputs). IsAskedText told i (lines replayed.events ++ tree_of replayed.tree)) (sym is)
    (replayed.events, w, takes, reliable, thorough, ap (λ (text : List ℕ). lines replayed.events ++ text) (tree_is w replayed.tree tree))

-- it was not taken
pub not_retold : (told : Option Files) (asked given : Inputs) (setup : Setup) (history : List ℕ) (status : Status) (result : Result Found Status) → asked ≡ given
    → ((s : Status) → Untaken setup history s → Unfound told given s) → IsErrAnd result (λ s. s ≡ status) → Retells setup history (std.Err status) → FindsFor told asked result
not_retold told asked given setup history status (std.Ok found) is untaken came why = absurd came
not_retold told asked given setup history status (std.Err s) is untaken came why =
    subst (λ (s : Status). (s ≡ Memory) ⊎ Unfound told asked s) (sym came) (unfound told asked given status is (or_untaken why))
  where
    or_untaken : (status ≡ Memory) ⊎ Untaken setup history status → (status ≡ Memory) ⊎ Unfound told given status
    or_untaken (inl want) = inl want
    or_untaken (inr why) = inr (untaken status why)

untaken_counted : (setup : Setup) (history : List ℕ) (n : ℕ) (status : Status) → Untaken setup history status → Counts {A = Found} n n (std.Err status)
untaken_counted setup history n (HistoryRefused line) why = refl
untaken_counted setup history n (Stuck waits) why = absurd why
untaken_counted setup history n (Worlds most) why = absurd why
untaken_counted setup history n (Unknown name) why = absurd why
untaken_counted setup history n Ok why = absurd why
untaken_counted setup history n (ConfigRefused file line code) why = absurd why
untaken_counted setup history n Usage why = absurd why
untaken_counted setup history n (MachineRefused line code) why = absurd why
untaken_counted setup history n (ScriptRefused which line code) why = absurd why
untaken_counted setup history n (Absent absent) why = absurd why
untaken_counted setup history n (TooLong long) why = absurd why
untaken_counted setup history n ReadFault why = absurd why
untaken_counted setup history n WriteFault why = absurd why
untaken_counted setup history n Memory why = absurd why

pub not_retold_counted : (setup : Setup) (history : List ℕ) (n : ℕ) (status : Status) (result : Result Found Status) → IsErrAnd result (λ s. s ≡ status)
    → Retells setup history (std.Err status) → Counts n n result
not_retold_counted setup history n status (std.Ok found) came why = absurd came
not_retold_counted setup history n status (std.Err s) came why = subst (λ (s : Status). Counts {A = Found} n n (std.Err s)) (sym came) (by_cause why)
  where
    by_cause : (status ≡ Memory) ⊎ Untaken setup history status → Counts {A = Found} n n (std.Err status)
    by_cause (inl want) = subst (λ (s : Status). Counts {A = Found} n n (std.Err s)) (sym want) refl
    by_cause (inr why) = untaken_counted setup history n status why

-- ---- by the words

-- the inputs of the words were read, and this was found for them
found_asked : (form : Option Form) (told : Option Files) (asked : Inputs) (result : Result Found Status) → Reads form told (std.Ok asked) → FormedInputs asked
    → FindsFor told asked result → Finds form told result
found_asked form told asked (std.Ok found) read formed finds = record { inputs = asked; read = read; formed = formed; asked = finds }
found_asked form told asked (std.Err status) read formed (inl want) = inl (subst (λ (s : Status). Reads form told (std.Err s)) (sym want) tt)
found_asked form told asked (std.Err status) read formed (inr why) = inr (asked, read, why)

pub found_read : (form : Option Form) (told reading : Option Files) (asked : Inputs) (result : Result Found Status) → reading ≡ told → Reads form told (std.Ok asked) → FormedInputs asked
    → FindsFor reading asked result → Finds form told result
found_read form told reading asked result is read formed finds =
    found_asked form told asked result read formed (subst (λ (f : Option Files). FindsFor f asked result) is finds)
