-- Which files are due behind a configuration, where there are scripts.
use Rattle.std.proofs.Common.{◌≡◌, ℕ, List, [], ◌∷◌, ◌++◌, refl, if◌then◌else◌, Some, None}
use Rattle.std.specs.Prelude.{bytes_eq, codes}
use Rattle.cf_types.specs.declared.tables.Tables.{Tables}
use Rattle.config_rules.specs.MachineText.{machine_of}
use Rattle.config_rules.specs.ScriptText.{commands, commands_of, order_of}
use Rattle.config_rules.specs.Reading.{Files}
use Rattle.app_input.specs.Asked.{files_behind, up_to_refused}
use Rattle.app_words.specs.Words.{Form, scripted}
use Rattle.app_words.specs.declared.words.Task.{Task}
use Rattle.app_words.specs.declared.words.Task.TheVariants.{Play, Replay}

-- files by their names
abbrev files : List (List ℕ × List ℕ) → Files
files [] name = None
files (f ∷ fs) name = if bytes_eq f.0 name then Some f.1 else files fs name

-- a text of one line
abbrev line : List ℕ → List ℕ
line words = words ++ 10 ∷ []

abbrev two_scripts : Task → Form
two_scripts task = scripted task (codes "conf") (codes "mach") (codes "order") (codes "s1" ∷ codes "s2" ∷ [])

abbrev due : Task → List (List ℕ × List ℕ) → Tables → List (List ℕ)
due task named tables = up_to_refused (files_behind (two_scripts task) (files named) tables)

-- the order file comes last
all_due : (tables : Tables)
    → due Play ((codes "mach", []) ∷ (codes "s1", []) ∷ (codes "s2", []) ∷ (codes "order", line (codes "2 1")) ∷ []) tables
    ≡ codes "mach" ∷ codes "s1" ∷ codes "s2" ∷ codes "order" ∷ []
unfolding machine_of commands commands_of order_of
all_due tables = refl

-- nothing is due behind a file that is not there, or that has a bad line
none_due_behind : (tables : Tables)
    → (due Play [] tables ≡ codes "mach" ∷ [])
    × (due Play ((codes "mach", line (codes "what")) ∷ (codes "s1", []) ∷ []) tables ≡ codes "mach" ∷ [])
    × (due Play ((codes "mach", []) ∷ (codes "s1", line (codes "what")) ∷ (codes "s2", []) ∷ []) tables ≡ codes "mach" ∷ codes "s1" ∷ [])
    × (due Play ((codes "mach", []) ∷ (codes "s1", []) ∷ (codes "order", []) ∷ []) tables ≡ codes "mach" ∷ codes "s1" ∷ codes "s2" ∷ [])
unfolding machine_of commands commands_of order_of
none_due_behind tables = (refl, refl, refl, refl)

-- a history comes last too, whatever it says
history_last : (tables : Tables)
    → due Replay ((codes "mach", []) ∷ (codes "s1", []) ∷ (codes "s2", []) ∷ (codes "order", line (codes "what")) ∷ []) tables
    ≡ codes "mach" ∷ codes "s1" ∷ codes "s2" ∷ codes "order" ∷ []
unfolding machine_of commands commands_of order_of
history_last tables = refl
