-- Which files were asked for, when the inputs were read and when they were refused.
use Rattle.std.proofs.Common.{◌≡◌, ℕ, ◌⊎◌, inl, inr, true, Option, Some, None, List, sym, refl, subst}
use Rattle.std.specs.Prelude as std
use Rattle.std.specs.Prelude.{IfSome, IsErrAnd, Result}
use Rattle.cf_compile.specs.Compiles.{AsksDue}
use Rattle.cf_compile.specs.declared.stop.CompileStop.{CompileStop}
use Rattle.cf_io.specs.Load.{asked_behind}
use Rattle.cf_io.proofs.AskedLemmas.{front_none}
use Rattle.config_rules.specs.Reading.{Files}
use Rattle.file_select.specs.Answers.{asked_for}
use Rattle.app_input.specs.Asked.{AsksInputs, Names}
use Rattle.app_input.specs.Inputs.{Reads}
use Rattle.app_input.specs.Stop.{status_of_stop}
use Rattle.app_words.specs.Status.{status_of}
use Rattle.app_words.specs.Words.{Form, boot, following, ioconf, is_compiled, is_from_outside, load, machine_in, scripted, side_by_side, sources}
use Rattle.app_input.specs.declared.inputs.Inputs.{Inputs}
use Rattle.app_input.specs.declared.inputs.Inputs.TheVariants as input
use Rattle.app_words.specs.declared.status.Status.{Status}
use Rattle.app_words.specs.declared.words.Task.{Task}
use Rattle.app_words.specs.declared.words.Task.TheVariants.{Play, Replay, Upgrade, Watch}
use Rattle.app_words.specs.declared.status.Status.TheVariants.{Ok, ConfigRefused, Usage, MachineRefused, ScriptRefused, HistoryRefused, Absent, TooLong, ReadFault, WriteFault, Memory, Stuck, Worlds, Unknown}
use Rattle.app_input.proofs.AskedLaws.{all_asked, inputs_all, inputs_memory, memory_asked, stopped_asked}
use Rattle.app_config.specs.FilesAsked.{AsksFiles, AsksSources, AsksThen}
use Rattle.app_config.specs.declared.found.Found.{Found}

-- ---- when the inputs were refused

-- what is known of a form holds of `files`, where that is the form
at_sources : (P : Form → Type 0) (name : List ℕ) (form : Form) → Some (sources name) ≡ Some form → P form → P (sources name)
at_sources P name form is holds = let same : form ≡ sources name = cc in subst P same holds

-- reading the inputs of `files` fails for want of memory alone
sources_unread : (name : List ℕ) (told : Option Files) (status : Status) → Reads (Some (sources name)) told (std.Err status) → status ≡ Memory
sources_unread name told Memory reads = refl
sources_unread name told (ConfigRefused file line code) (f, is, compiled, fault) = let never = at_sources (λ form. is_compiled form ≡ true) name f is compiled in absurd cc
sources_unread name told Usage reads = absurd cc
sources_unread name told (MachineRefused line code) (f, file, tables, is, machine, meant, described) = let never = at_sources (λ form. machine_in form ≡ Some file) name f is machine in absurd cc
sources_unread name told (ScriptRefused which line code) (inl (task, tables, m, (file, machine, course, names, is, meant, described, refused))) = absurd cc
sources_unread name told (ScriptRefused which line code) (inr (inl (tables, m, (file, machine, names, is, meant, described, refused)))) = absurd cc
sources_unread name told (ScriptRefused which line code) (inr (inr (tables, m, (file, machine, plan, is, meant, described, refused)))) = absurd cc
sources_unread name told (Absent absent) (inl (f, file, tables, is, machine, meant, why)) = let never = at_sources (λ form. machine_in form ≡ Some file) name f is machine in absurd cc
sources_unread name told (Absent absent) (inr (inl (task, tables, m, (file, machine, course, names, is, meant, described, refused)))) = absurd cc
sources_unread name told (Absent absent) (inr (inr (inl (tables, m, (file, machine, names, is, meant, described, refused))))) = absurd cc
sources_unread name told (Absent absent) (inr (inr (inr (tables, m, (file, machine, plan, is, meant, described, refused))))) = absurd cc
sources_unread name told (TooLong long) (inl (f, file, tables, is, machine, meant, why)) = let never = at_sources (λ form. machine_in form ≡ Some file) name f is machine in absurd cc
sources_unread name told (TooLong long) (inr (inl (task, tables, m, (file, machine, course, names, is, meant, described, refused)))) = absurd cc
sources_unread name told (TooLong long) (inr (inr (inl (tables, m, (file, machine, names, is, meant, described, refused))))) = absurd cc
sources_unread name told (TooLong long) (inr (inr (inr (tables, m, (file, machine, plan, is, meant, described, refused))))) = absurd cc
sources_unread name told ReadFault (f, is, outside) = let never = at_sources (λ form. is_from_outside form ≡ true) name f is outside in absurd cc
sources_unread name told Ok never = elim never [ ]
sources_unread name told WriteFault never = elim never [ ]
sources_unread name told (HistoryRefused line) never = elim never [ ]
sources_unread name told (Stuck waits) never = elim never [ ]
sources_unread name told (Worlds most) never = elim never [ ]
sources_unread name told (Unknown other) never = elim never [ ]

none_of_sources : (told : Option Files) (name : List ℕ) (old new : Names) → new ≡ old → AsksSources told name Memory old new
none_of_sources None name old new same = tt
none_of_sources (Some files) name old new same = front_none (asked_for files name) old new same

pub refused_asked : (form : Option Form) (told : Option Files) (status : Status) (old new : Names) → Reads form told (std.Err status) → AsksInputs form told status old new
    → AsksFiles form told status old new
refused_asked None told status old new reads asked = asked
refused_asked (Some (ioconf file)) told status old new reads asked = asked
refused_asked (Some (boot file machine)) told status old new reads asked = asked
refused_asked (Some (load n)) told status old new reads asked = asked
refused_asked (Some (following file machine plan)) told status old new reads asked = asked
refused_asked (Some (scripted task file machine course names)) told status old new reads asked = asked
refused_asked (Some (side_by_side file machine names)) told status old new reads asked = asked
refused_asked (Some (sources name)) told status old new reads asked =
    subst (λ (s : Status). AsksSources told name s old new) (sym (sources_unread name told status reads)) (none_of_sources told name old new asked)

-- ---- when the inputs were read

-- no more files are asked for
quiet_then : (form : Option Form) (told : Option Files) (status : Status) (old mid new : Names) → AsksInputs form told Ok old mid → new ≡ mid → AsksInputs form told status old new
quiet_then form told status old mid new asked same = inputs_all form told status old new (subst (λ (now : Names). AsksInputs form told Ok old now) (sym same) asked)

run_asked : (form : Option Form) (told : Option Files) (task : Task) (file name course : List ℕ) (names : List (List ℕ)) (status : Status) (old mid new : Names)
    → form ≡ Some (scripted task file name course names) → AsksInputs form told Ok old mid → new ≡ mid → AsksFiles form told status old new
run_asked form told task file name course names status old mid new is asked later =
    subst (λ (f : Option Form). AsksFiles f told status old new) (sym is)
    (quiet_then (Some (scripted task file name course names)) told status old mid new (subst (λ (f : Option Form). AsksInputs f told Ok old mid) is asked) later)

pub found_asked : (form : Option Form) (told reads : Option Files) (inputs : Inputs) (status : Status) (old mid new : Names) → reads ≡ told → Reads form told (std.Ok inputs)
    → AsksInputs form told Ok old mid → AsksThen reads inputs status mid new → AsksFiles form told status old new
found_asked form told reads (input.Ioconf tables) status old mid new same (file, is, meant) asked later =
    subst (λ (f : Option Form). AsksFiles f told status old new) (sym is)
    (quiet_then (Some (ioconf file)) told status old mid new (subst (λ (f : Option Form). AsksInputs f told Ok old mid) is asked) later)
found_asked form told reads (input.Boot tables machine) status old mid new same (file, name, is, meant, described) asked later =
    subst (λ (f : Option Form). AsksFiles f told status old new) (sym is)
    (quiet_then (Some (boot file name)) told status old mid new (subst (λ (f : Option Form). AsksInputs f told Ok old mid) is asked) later)
found_asked form told reads (input.Load n tables machine) status old mid new same (is, made) asked later =
    subst (λ (f : Option Form). AsksFiles f told status old new) (sym is)
    (quiet_then (Some (load n)) told status old mid new (subst (λ (f : Option Form). AsksInputs f told Ok old mid) is asked) later)
found_asked form told reads (input.Play tables machine scripts order) status old mid new same (file, name, course, names, is, meant, described, given) asked later =
    run_asked form told Play file name course names status old mid new is asked later
found_asked form told reads (input.Replay tables machine scripts history) status old mid new same (file, name, course, names, is, meant, described, given) asked later =
    run_asked form told Replay file name course names status old mid new is asked later
found_asked form told reads (input.Upgrade tables machine scripts history) status old mid new same (file, name, course, names, is, meant, described, given) asked later =
    run_asked form told Upgrade file name course names status old mid new is asked later
found_asked form told reads (input.Watch tables machine scripts watch) status old mid new same (file, name, course, names, is, meant, described, given) asked later =
    run_asked form told Watch file name course names status old mid new is asked later
found_asked form told reads (input.Follow tables machine plan) status old mid new same (file, name, at, is, meant, described, given) asked later =
    subst (λ (f : Option Form). AsksFiles f told status old new) (sym is)
    (quiet_then (Some (following file name at)) told status old mid new (subst (λ (f : Option Form). AsksInputs f told Ok old mid) is asked) later)
found_asked form told reads (input.Run tables machine scripts) status old mid new same (file, name, names, is, meant, described, given) asked later =
    subst (λ (f : Option Form). AsksFiles f told status old new) (sym is)
    (quiet_then (Some (side_by_side file name names)) told status old mid new (subst (λ (f : Option Form). AsksInputs f told Ok old mid) is asked) later)
found_asked form told reads (input.Files name) status old mid new same is asked later =
    let before : mid ≡ old = subst (λ (f : Option Form). AsksInputs f told Ok old mid) is asked in
    subst (λ (f : Option Form). AsksFiles f told status old new) (sym is)
    (subst (λ (o : Names). AsksSources told name status o new) before (subst (λ (files : Option Files). AsksSources files name status mid new) same later))

-- ---- behind finding

sources_all : (told : Option Files) (name : List ℕ) (status : Status) (old new : Names) → AsksSources told name Ok old new → AsksSources told name status old new
sources_all None name status old new asked = tt
sources_all (Some files) name status old new asked = all_asked (asked_for files name) status old new asked

-- all that is due was asked for, whatever comes of writing
pub files_all : (form : Option Form) (told : Option Files) (status : Status) (old new : Names) → AsksFiles form told Ok old new → AsksFiles form told status old new
files_all None told status old new asked = asked
files_all (Some (ioconf file)) told status old new asked = inputs_all (Some (ioconf file)) told status old new asked
files_all (Some (boot file machine)) told status old new asked = inputs_all (Some (boot file machine)) told status old new asked
files_all (Some (load n)) told status old new asked = asked
files_all (Some (following file machine plan)) told status old new asked = inputs_all (Some (following file machine plan)) told status old new asked
files_all (Some (scripted task file machine course names)) told status old new asked = inputs_all (Some (scripted task file machine course names)) told status old new asked
files_all (Some (side_by_side file machine names)) told status old new asked = inputs_all (Some (side_by_side file machine names)) told status old new asked
files_all (Some (sources name)) told status old new asked = sources_all told name status old new asked

sources_memory : (told : Option Files) (name : List ℕ) (status : Status) (old new : Names) → AsksSources told name status old new → AsksSources told name Memory old new
sources_memory None name status old new asked = tt
sources_memory (Some files) name status old new asked = memory_asked (asked_for files name) status old new asked

files_memory : (form : Option Form) (told : Option Files) (status : Status) (old new : Names) → AsksFiles form told status old new → AsksFiles form told Memory old new
files_memory None told status old new asked = asked
files_memory (Some (ioconf file)) told status old new asked = inputs_memory (Some (ioconf file)) told status old new asked
files_memory (Some (boot file machine)) told status old new asked = inputs_memory (Some (boot file machine)) told status old new asked
files_memory (Some (load n)) told status old new asked = asked
files_memory (Some (following file machine plan)) told status old new asked = inputs_memory (Some (following file machine plan)) told status old new asked
files_memory (Some (scripted task file machine course names)) told status old new asked = inputs_memory (Some (scripted task file machine course names)) told status old new asked
files_memory (Some (side_by_side file machine names)) told status old new asked = inputs_memory (Some (side_by_side file machine names)) told status old new asked
files_memory (Some (sources name)) told status old new asked = sources_memory told name status old new asked

-- telling of a status asks for no file
pub files_told : (form : Option Form) (told : Option Files) (status result : Status) (old new : Names) → AsksFiles form told status old new
    → (result ≡ status) ⊎ (result ≡ Memory) → AsksFiles form told result old new
files_told form told status result old new asked (inl e) = subst (λ (s : Status). AsksFiles form told s old new) (sym e) asked
files_told form told status result old new asked (inr e) = subst (λ (s : Status). AsksFiles form told s old new) (sym e) (files_memory form told status old new asked)

-- ---- finding

-- no file is asked for where nothing is selected
pub then_by : (told : Option Files) (inputs given : Inputs) (status : Status) (asked : Names) → inputs ≡ given → AsksThen told given status asked asked → AsksThen told inputs status asked asked
then_by told inputs given status asked is then = subst (λ (i : Inputs). AsksThen told i status asked asked) (sym is) then

-- the sources were selected
pub selected_then : (told : Option Files) (inputs : Inputs) (name given : List ℕ) (old new : Names) → inputs ≡ input.Files name → given ≡ name
    → IfSome told (λ files. new ≡ asked_behind old (asked_for files given)) → AsksThen told inputs Ok old new
selected_then told inputs name given old new is same asked =
    subst (λ (i : Inputs). AsksThen told i Ok old new) (sym is) (subst (λ (n : List ℕ). AsksSources told n Ok old new) same asked)

-- or they were not
pub unselected_then : (told : Option Files) (inputs : Inputs) (name given : List ℕ) (stop : CompileStop) (result : Result Found Status) (old new : Names) → inputs ≡ input.Files name → given ≡ name
    → IsErrAnd result (λ e. e ≡ status_of_stop stop) → IfSome told (λ files. AsksDue {A = List (List ℕ)} (asked_for files given) (std.Err stop) old new)
    → AsksThen told inputs (status_of result) old new
unselected_then told inputs name given stop (std.Ok found) old new is same from asked = absurd from
unselected_then told inputs name given stop (std.Err status) old new is same from asked =
    subst (λ (i : Inputs). AsksThen told i status old new) (sym is)
    (subst (λ (n : List ℕ). AsksSources told n status old new) same
    (stopped_asked (List (List ℕ)) told (λ files. asked_for files given) stop status old new from asked))
