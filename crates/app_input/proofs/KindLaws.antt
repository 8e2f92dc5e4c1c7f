-- The words of each program ask for the inputs of that program.
use Rattle.std.proofs.Common.{ℕ, Bool, true, false, Option, Some, None, List, [], ◌∷◌, length, if◌then◌else◌, subst}
use Rattle.std.specs.Prelude.{bytes_eq, codes, option_and_then, option_map, ⊤}
use Rattle.std.specs.Prelude as std
use Rattle.std.specs.List.{list_all}
use Rattle.config_rules.specs.Form.{given}
use Rattle.config_rules.specs.Reading.{Files}
use Rattle.app_input.specs.declared.inputs.Inputs.{Inputs}
use Rattle.app_input.specs.declared.inputs.Inputs.TheVariants as input
use Rattle.app_words.specs.declared.program.Program.{Program}
use Rattle.app_words.specs.declared.program.Program.TheVariants.{Devconf, Drvrun, Drvall, Devwhy}
use Rattle.app_words.specs.declared.status.Status.{Status}
use Rattle.app_words.specs.declared.words.Task.{Task}
use Rattle.app_words.specs.declared.words.Task.TheVariants.{Play, Replay, Upgrade, Watch}
use Rattle.app_input.specs.Inputs.{IsInputsOf, IsSideBySide, Reads}
use Rattle.app_words.specs.Words.{Form, boot, boot_form, bound_of, bounded_form, count_of, drvrun_form, file_in, following, following_form, form_named, form_of, ioconf, is_bound_word, is_operand, is_script_count, load, load_form, named_form, scripted, scripted_form, side_by_side, side_by_side_form, sources}

-- the form of scripts side by side, or none
abbrev IsSideForm : Option Form → Type 0
IsSideForm (Some (ioconf file)) = ⊥
IsSideForm (Some (sources file)) = ⊥
IsSideForm (Some (boot file machine)) = ⊥
IsSideForm (Some (load n)) = ⊥
IsSideForm (Some (following file machine plan)) = ⊥
IsSideForm (Some (scripted task file machine course scripts)) = ⊥
IsSideForm form = ⊤

-- a form that words of the program may have
abbrev pub IsFormOf : Program → Option Form → Type 0
IsFormOf Devconf (Some (side_by_side file machine scripts)) = ⊥
IsFormOf Devconf form = ⊤
IsFormOf Drvrun form = IsSideForm form
IsFormOf Drvall form = IsSideForm form
IsFormOf Devwhy (Some (sources file)) = ⊥
IsFormOf Devwhy (Some (load n)) = ⊥
IsFormOf Devwhy (Some (following file machine plan)) = ⊥
IsFormOf Devwhy (Some (scripted task file machine course scripts)) = ⊥
IsFormOf Devwhy (Some (side_by_side file machine scripts)) = ⊥
IsFormOf Devwhy form = ⊤

either : (program : Program) (a b : Option Form) (test : Bool) → IsFormOf program a → IsFormOf program b → IsFormOf program (if test then a else b)
either program a b true first second = first
either program a b false first second = second

where_given : (program : Program) (form : Form) (test : Bool) → IsFormOf program (Some form) → IsFormOf program (given test form)
where_given program form true is = is
where_given Devconf form false is = tt
where_given Drvrun form false is = tt
where_given Drvall form false is = tt
where_given Devwhy form false is = tt

mapped : {A : Type 0} (form : A → Form) (x : Option A) → ((a : A) → IsFormOf Devconf (Some (form a))) → IsFormOf Devconf (option_map form x)
mapped form None is = tt
mapped form (Some a) is = is a

boot_of : (operands : List (List ℕ)) → IsFormOf Devconf (boot_form operands)
boot_of [] = tt
boot_of (file ∷ []) = tt
boot_of (file ∷ machine ∷ []) = tt
boot_of (file ∷ machine ∷ other ∷ more) = tt

following_of : (operands : List (List ℕ)) → IsFormOf Devconf (following_form operands)
following_of [] = tt
following_of (file ∷ []) = tt
following_of (file ∷ machine ∷ []) = tt
following_of (file ∷ machine ∷ plan ∷ []) = tt
following_of (file ∷ machine ∷ plan ∷ other ∷ more) = tt

load_of : (operands : List (List ℕ)) → IsFormOf Devconf (load_form operands)
load_of [] = tt
load_of (word ∷ []) = mapped load (count_of word) (λ n. tt)
load_of (word ∷ other ∷ more) = tt

scripted_of : (task : Task) (operands : List (List ℕ)) → IsFormOf Devconf (scripted_form task operands)
scripted_of task [] = tt
scripted_of task (file ∷ []) = tt
scripted_of task (file ∷ machine ∷ []) = tt
scripted_of task (file ∷ machine ∷ course ∷ scripts) = where_given Devconf (scripted task file machine course scripts) (is_script_count (length scripts)) tt

named : (word : List ℕ) (operands : List (List ℕ)) → IsFormOf Devconf (form_named word operands)
named word operands =
    either Devconf _ _ (bytes_eq word (codes "ioconf")) (mapped ioconf (file_in operands) (λ file. tt))
    (either Devconf _ _ (bytes_eq word (codes "files")) (mapped sources (file_in operands) (λ file. tt))
    (either Devconf _ _ (bytes_eq word (codes "boot")) (boot_of operands)
    (either Devconf _ _ (bytes_eq word (codes "load")) (load_of operands)
    (either Devconf _ _ (bytes_eq word (codes "play")) (scripted_of Play operands)
    (either Devconf _ _ (bytes_eq word (codes "replay")) (scripted_of Replay operands)
    (either Devconf _ _ (bytes_eq word (codes "upgrade")) (scripted_of Upgrade operands)
    (either Devconf _ _ (bytes_eq word (codes "watch")) (scripted_of Watch operands)
    (either Devconf _ _ (bytes_eq word (codes "tables")) (following_of operands) tt))))))))

-- `FILE MACHINE SCRIPT..` of a program that takes scripts side by side
run_of : (program : Program) → ((file machine : List ℕ) (scripts : List (List ℕ)) → IsFormOf program (Some (side_by_side file machine scripts))) → IsFormOf program None
    → (words : List (List ℕ)) → IsFormOf program (drvrun_form words)
run_of program takes none words = either program (side_by_side_form words) None (list_all is_operand words) (by_words words) none
  where
    by_words : (words : List (List ℕ)) → IsFormOf program (side_by_side_form words)
    by_words [] = none
    by_words (file ∷ []) = none
    by_words (file ∷ machine ∷ scripts) = where_given program (side_by_side file machine scripts) (is_script_count (length scripts)) (takes file machine scripts)

bound_of_form : (words : List (List ℕ)) (most : Option ℕ) → IsFormOf Drvall (option_and_then (λ n. drvrun_form words) most)
bound_of_form words None = tt
bound_of_form words (Some n) = run_of Drvall (λ file machine scripts. tt) tt words

bounded_of : (words : List (List ℕ)) → IsFormOf Drvall (bounded_form words)
bounded_of [] = tt
bounded_of (word ∷ words) = bound_of_form words (bound_of word)

named_of : (words : List (List ℕ)) → IsFormOf Devwhy (named_form words)
named_of [] = tt
named_of (file ∷ []) = tt
named_of (file ∷ name ∷ []) = tt
named_of (file ∷ machine ∷ name ∷ []) = tt
named_of (file ∷ machine ∷ name ∷ other ∷ more) = tt

pub form_fits : (program : Program) (words : List (List ℕ)) → IsFormOf program (form_of program words)
form_fits Devconf [] = tt
form_fits Devconf (word ∷ operands) = either Devconf (form_named word operands) None (list_all is_operand operands) (named word operands) tt
form_fits Drvrun words = run_of Drvrun (λ file machine scripts. tt) tt words
form_fits Drvall [] = tt
form_fits Drvall (word ∷ words) =
    either Drvall (bounded_form words) (drvrun_form (word ∷ words)) (is_bound_word word) (bounded_of words) (run_of Drvall (λ file machine scripts. tt) tt (word ∷ words))
form_fits Devwhy words = either Devwhy (named_form words) None (list_all is_operand words) (named_of words) tt

-- inputs that words of such a form gave
side_inputs : (form : Option Form) (told : Option Files) (inputs : Inputs) → IsSideForm form → Reads form told (std.Ok inputs) → IsSideBySide inputs
side_inputs form told (input.Run tables machine scripts) fits reads = tt
side_inputs form told (input.Ioconf tables) fits (file, is, meant) = subst IsSideForm is fits
side_inputs form told (input.Files name) fits is = subst IsSideForm is fits
side_inputs form told (input.Boot tables machine) fits (file, name, is, meant, described) = subst IsSideForm is fits
side_inputs form told (input.Load n tables machine) fits (is, made) = subst IsSideForm is fits
side_inputs form told (input.Follow tables machine plan) fits (file, name, at, is, meant, described, gives) = subst IsSideForm is fits
side_inputs form told (input.Play tables machine scripts order) fits (file, name, course, names, is, meant, described, gives) = subst IsSideForm is fits
side_inputs form told (input.Replay tables machine scripts history) fits (file, name, course, names, is, meant, described, gives) = subst IsSideForm is fits
side_inputs form told (input.Upgrade tables machine scripts history) fits (file, name, course, names, is, meant, described, gives) = subst IsSideForm is fits
side_inputs form told (input.Watch tables machine scripts lines) fits (file, name, course, names, is, meant, described, gives) = subst IsSideForm is fits

-- inputs that words of this program gave
inputs_by : (program : Program) (form : Option Form) (told : Option Files) (inputs : Inputs) → IsFormOf program form → Reads form told (std.Ok inputs) → IsInputsOf program inputs
inputs_by Devconf form told (input.Run tables machine scripts) fits (file, name, names, is, meant, described, gives) = subst (IsFormOf Devconf) is fits
inputs_by Devconf form told (input.Ioconf tables) fits reads = tt
inputs_by Devconf form told (input.Files name) fits reads = tt
inputs_by Devconf form told (input.Boot tables machine) fits reads = tt
inputs_by Devconf form told (input.Load n tables machine) fits reads = tt
inputs_by Devconf form told (input.Follow tables machine plan) fits reads = tt
inputs_by Devconf form told (input.Play tables machine scripts order) fits reads = tt
inputs_by Devconf form told (input.Replay tables machine scripts history) fits reads = tt
inputs_by Devconf form told (input.Upgrade tables machine scripts history) fits reads = tt
inputs_by Devconf form told (input.Watch tables machine scripts lines) fits reads = tt
inputs_by Drvrun form told inputs fits reads = side_inputs form told inputs fits reads
inputs_by Drvall form told inputs fits reads = side_inputs form told inputs fits reads
inputs_by Devwhy form told (input.Run tables machine scripts) fits (file, name, names, is, meant, described, gives) = subst (IsFormOf Devwhy) is fits
inputs_by Devwhy form told (input.Ioconf tables) fits reads = tt
inputs_by Devwhy form told (input.Files name) fits is = subst (IsFormOf Devwhy) is fits
inputs_by Devwhy form told (input.Boot tables machine) fits reads = tt
inputs_by Devwhy form told (input.Load n tables machine) fits (is, made) = subst (IsFormOf Devwhy) is fits
inputs_by Devwhy form told (input.Follow tables machine plan) fits (file, name, at, is, meant, described, gives) = subst (IsFormOf Devwhy) is fits
inputs_by Devwhy form told (input.Play tables machine scripts order) fits (file, name, course, names, is, meant, described, gives) = subst (IsFormOf Devwhy) is fits
inputs_by Devwhy form told (input.Replay tables machine scripts history) fits (file, name, course, names, is, meant, described, gives) = subst (IsFormOf Devwhy) is fits
inputs_by Devwhy form told (input.Upgrade tables machine scripts history) fits (file, name, course, names, is, meant, described, gives) = subst (IsFormOf Devwhy) is fits
inputs_by Devwhy form told (input.Watch tables machine scripts lines) fits (file, name, course, names, is, meant, described, gives) = subst (IsFormOf Devwhy) is fits

-- what reading the words of this program gave
pub kind_read : (program : Program) (words : List (List ℕ)) (told : Option Files) (result : std.Result Inputs Status) → Reads (form_of program words) told result
    → std.IfOk result (IsInputsOf program)
kind_read program words told (std.Ok inputs) reads = inputs_by program (form_of program words) told inputs (form_fits program words) reads
kind_read program words told (std.Err status) reads = tt
