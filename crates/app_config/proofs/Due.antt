-- The status that is due, by what was read and found.
use Rattle.std.proofs.Common.{inl, inr, ◌≡◌, ℕ, ◌≤◌, Option, Some, None, List, ap, refl, subst, sym, arith}
use Rattle.std.specs.Prelude.{◌⊎◌, IfSome, Result}
use Rattle.std.specs.Prelude as std
use Rattle.cf_io.specs.Faults.{Rose}
use Rattle.config_rules.specs.Reading.{Files}
use Rattle.run_rules.specs.declared.world.Setup.{Setup}
use Rattle.run_rules.specs.Reread.{reread}
use Rattle.run_rules.specs.World.{opening, setup_of}
use Rattle.app_input.specs.Inputs.{IsDue}
use Rattle.app_words.specs.Words.{Form}
use Rattle.app_input.specs.declared.inputs.Inputs.{Inputs}
use Rattle.app_input.specs.declared.inputs.Inputs.TheVariants as input
use Rattle.app_words.specs.declared.status.Status.{Status}
use Rattle.app_words.specs.declared.status.Status.TheVariants.{Ok, ConfigRefused, Usage, MachineRefused, ScriptRefused, HistoryRefused, Absent, TooLong, ReadFault, WriteFault, Memory, Stuck, Worlds, Unknown}
use Rattle.app_config.specs.Asked.{IsAskedText}
use Rattle.app_tasks.specs.Retold.{Untaken}
use Rattle.app_config.specs.Found.{FindsFor, Unfound, Unselected, found_text}
use Rattle.app_words.specs.Status.{Counts, status_of}
use Rattle.app_config.specs.Run.{IsDueOr, IsInputsStatus, history_status}
use Rattle.app_config.specs.declared.found.Found.{Found}

-- ---- finding

-- inputs that have a text call for it to be written
asked_status : (files : Files) (asked : Inputs) (text : List ℕ) → IsAskedText (Some files) asked text → IsInputsStatus files asked Ok
unfolding IsAskedText
asked_status files (input.Ioconf tables) text is = refl
asked_status files (input.Files name) text is = (is.0, is.1)
asked_status files (input.Boot tables machine) text is = refl
asked_status files (input.Load n tables machine) text is = refl
asked_status files (input.Play tables machine scripts order) text is = refl
asked_status files (input.Replay tables machine scripts history) text (h, w, takes, reliable, thorough, is) = sym (ap history_status takes)
asked_status files (input.Upgrade tables machine scripts history) text (h, w, takes, reliable, thorough, is) = sym (ap history_status takes)
asked_status files (input.Watch tables machine scripts watch) text is = refl
asked_status files (input.Follow tables machine plan) text is = refl
asked_status files (input.Run tables machine scripts) text is = absurd is

-- why the sources were not selected, where no reading failed
unselected_status : (files : Files) (name : List ℕ) (before after : ℕ) (status : Status) → Unselected (Some files) name status → Counts {A = Found} before after (std.Err status)
    → ¬ Rose before after → IsInputsStatus files (input.Files name) status
unselected_status files name before after (ConfigRefused file line code) why counts quiet = why
unselected_status files name before after ReadFault why counts quiet = absurd (quiet counts.1)
unselected_status files name before after Ok why counts quiet = absurd why
unselected_status files name before after Usage why counts quiet = absurd why
unselected_status files name before after (MachineRefused line code) why counts quiet = absurd why
unselected_status files name before after (ScriptRefused which line code) why counts quiet = absurd why
unselected_status files name before after (HistoryRefused line) why counts quiet = absurd why
unselected_status files name before after (Stuck waits) why counts quiet = absurd why
unselected_status files name before after (Worlds most) why counts quiet = absurd why
unselected_status files name before after (Unknown other) why counts quiet = absurd why
unselected_status files name before after (Absent absent) why counts quiet = absurd why
unselected_status files name before after (TooLong long) why counts quiet = absurd why
unselected_status files name before after WriteFault why counts quiet = absurd why
unselected_status files name before after Memory why counts quiet = absurd why

-- the first bad line of a history is its status
untaken_status : (setup : Setup) (history : List ℕ) (status : Status) → Untaken setup history status → status ≡ history_status (reread (opening setup) history)
untaken_status setup history (HistoryRefused line) bad = sym (ap history_status bad)
untaken_status setup history (Stuck waits) bad = absurd bad
untaken_status setup history (Worlds most) bad = absurd bad
untaken_status setup history (Unknown name) bad = absurd bad
untaken_status setup history Ok why = absurd why
untaken_status setup history (ConfigRefused file line code) why = absurd why
untaken_status setup history Usage why = absurd why
untaken_status setup history (MachineRefused line code) why = absurd why
untaken_status setup history (ScriptRefused which line code) why = absurd why
untaken_status setup history (Absent absent) why = absurd why
untaken_status setup history (TooLong long) why = absurd why
untaken_status setup history ReadFault why = absurd why
untaken_status setup history WriteFault why = absurd why
untaken_status setup history Memory why = absurd why

-- why nothing was found is the status that the inputs call for, where no reading failed
unfound_status : (files : Files) (asked : Inputs) (before after : ℕ) (status : Status) → Unfound (Some files) asked status → Counts {A = Found} before after (std.Err status)
    → ¬ Rose before after → IsInputsStatus files asked status
unfound_status files (input.Files name) before after status why counts quiet = unselected_status files name before after status why counts quiet
unfound_status files (input.Replay tables machine scripts history) before after status why counts quiet = untaken_status (setup_of tables machine scripts) history status why
unfound_status files (input.Upgrade tables machine scripts history) before after status why counts quiet = untaken_status (setup_of tables machine scripts) history status why
unfound_status files (input.Ioconf tables) before after status why counts quiet = absurd why
unfound_status files (input.Boot tables machine) before after status why counts quiet = absurd why
unfound_status files (input.Load n tables machine) before after status why counts quiet = absurd why
unfound_status files (input.Play tables machine scripts order) before after status why counts quiet = absurd why
unfound_status files (input.Watch tables machine scripts watch) before after status why counts quiet = absurd why
unfound_status files (input.Follow tables machine plan) before after status why counts quiet = absurd why
unfound_status files (input.Run tables machine scripts) before after status why counts quiet = absurd why

due_found : (form : Option Form) (files : Files) (asked : Inputs) (before after : ℕ) (result : Result Found Status) → IsDue form files (std.Ok asked)
    → FindsFor (Some files) asked result → Counts before after result → ¬ Rose before after → IsDueOr form files (status_of result)
due_found form files asked before after (std.Ok found) due finds counts quiet = inr (std.Ok asked, due, asked_status files asked (found_text found) finds)
due_found form files asked before after (std.Err status) due (inl want) counts quiet = inl want
due_found form files asked before after (std.Err status) due (inr why) counts quiet = inr (std.Ok asked, due, unfound_status files asked before after status why counts quiet)

-- the count of faults of reading does not fall
counts_rise : (before after : ℕ) (result : Result Found Status) → Counts before after result → before ≤ after
counts_rise before after (std.Ok found) counts = omega arith
counts_rise before after (std.Err Ok) counts = omega arith
counts_rise before after (std.Err (ConfigRefused file line code)) counts = omega arith
counts_rise before after (std.Err Usage) counts = omega arith
counts_rise before after (std.Err (MachineRefused line code)) counts = omega arith
counts_rise before after (std.Err (ScriptRefused which line code)) counts = omega arith
counts_rise before after (std.Err (HistoryRefused line)) counts = omega arith
counts_rise before after (std.Err (Stuck waits)) counts = omega arith
counts_rise before after (std.Err (Worlds most)) counts = omega arith
counts_rise before after (std.Err (Unknown name)) counts = omega arith
counts_rise before after (std.Err (Absent name)) counts = omega arith
counts_rise before after (std.Err (TooLong name)) counts = omega arith
counts_rise before after (std.Err ReadFault) counts = counts.0
counts_rise before after (std.Err WriteFault) counts = omega arith
counts_rise before after (std.Err Memory) counts = omega arith

-- it had not risen before, where it did not rise in the end
not_risen : (before mid after : ℕ) → mid ≡ before → mid ≤ after → ¬ Rose before after → ¬ Rose before mid
not_risen before mid after same up quiet (inl less) = absurd (omega arith)
not_risen before mid after same up quiet (inr most) = quiet (inr (omega arith))

-- the answer that these inputs are
abbrev pub answer : Inputs → Result Inputs Status
answer asked = std.Ok asked

due_given : (form : Option Form) (files : Files) (asked : Inputs) → (answer asked ≡ std.Err Memory) ⊎ IsDue form files (answer asked) → IsDue form files (answer asked)
due_given form files asked (inl e) = absurd (cc)
due_given form files asked (inr due) = due

-- where inputs were read
pub due_by : (told reading : Option Files) (form : Option Form) (asked : Inputs) (before mid after : ℕ) (result : Result Found Status) → reading ≡ told → mid ≡ before
    → IfSome told (λ files. ¬ Rose before mid → (answer asked ≡ std.Err Memory) ⊎ IsDue form files (answer asked)) → FindsFor reading asked result → Counts mid after result
    → IfSome told (λ files. ¬ Rose before after → IsDueOr form files (status_of result))
due_by None reading form asked before mid after result is same due finds counts = tt
due_by (Some files) reading form asked before mid after result is same due finds counts =
    λ quiet. due_found form files asked before after result
    (due_given form files asked (due (not_risen before mid after same (counts_rise mid after result counts) quiet)))
    (subst (λ (f : Option Files). FindsFor f asked result) is finds) (subst (λ (n : ℕ). Counts n after result) same counts) quiet

-- the answer that this refusal is
abbrev pub refusal : Status → Result Inputs Status
refusal status = std.Err status

refused_due : (form : Option Form) (files : Files) (status : Status) → (refusal status ≡ refusal Memory) ⊎ IsDue form files (refusal status) → IsDueOr form files status
refused_due form files status (inl e) = inl (cc)
refused_due form files status (inr due) = inr (refusal status, due, refl)

-- where they were refused
pub due_refused : (told : Option Files) (form : Option Form) (before after : ℕ) (status : Status)
    → IfSome told (λ files. ¬ Rose before after → (refusal status ≡ refusal Memory) ⊎ IsDue form files (refusal status))
    → IfSome told (λ files. ¬ Rose before after → IsDueOr form files status)
due_refused None form before after status due = due
due_refused (Some files) form before after status due = λ quiet. refused_due form files status (due quiet)
