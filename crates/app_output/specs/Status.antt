-- What a status says on standard error.
use Rattle.std.specs.Prelude.{ℕ, ◌+◌, List, [], ◌∷◌, ◌++◌, codes, decimal, slice_index_or}
use Rattle.app_words.specs.Words.{bound_words}
use Rattle.app_words.specs.declared.program.Program.{Program}
use Rattle.app_words.specs.declared.program.Program.TheVariants.{Devconf, Drvrun, Drvall, Devwhy}
use Rattle.app_words.specs.declared.status.Status.{Status}
use Rattle.app_words.specs.declared.status.Status.TheVariants.{Ok, ConfigRefused, Usage, MachineRefused, ScriptRefused, HistoryRefused, Absent, TooLong, ReadFault, WriteFault, Memory, Stuck, Worlds, Unknown}

-- the forms that the words of a program may have
abbrev pub usage_text : Program → List ℕ
usage_text Devconf = codes "usage: devconf ioconf FILE | boot FILE MACHINE | play FILE MACHINE ORDER SCRIPT.. | replay FILE MACHINE HISTORY SCRIPT.. | upgrade FILE MACHINE HISTORY SCRIPT.. | files FILE | tables FILE MACHINE PLAN | watch FILE MACHINE WATCH SCRIPT.. | load N"
usage_text Drvrun = codes "usage: drvrun FILE MACHINE SCRIPT.."
usage_text Drvall = codes "usage: drvall [-w N] FILE MACHINE SCRIPT.."
usage_text Devwhy = codes "usage: devwhy FILE [MACHINE] NAME"

-- a file of a kind, at a line
abbrev pub place_text : List ℕ → List ℕ → ℕ → List ℕ
place_text kind file line = kind ++ codes " " ++ file ++ codes ":" ++ decimal line

-- what a refusal of a file at a line says
abbrev pub refused_text : List ℕ → List ℕ → ℕ → ℕ → List ℕ
refused_text kind file line code = place_text kind file line ++ codes ": code " ++ decimal code

-- the third word of `devconf` names the machine file, the second one of `drvrun` and `devwhy`, and that of `drvall` behind its bound
abbrev pub machine_word : Program → List (List ℕ) → List ℕ
machine_word Devconf words = slice_index_or words 2 []
machine_word Drvrun words = slice_index_or words 1 []
machine_word Drvall words = slice_index_or words (1 + bound_words words) []
machine_word Devwhy words = slice_index_or words 1 []

-- the fourth word of `devconf` names the order file, the history or the watch file, and those behind it the scripts, numbered from 1; those
-- of `drvrun` and `drvall` stand behind the machine file; `devwhy` has none
abbrev pub script_word : Program → List (List ℕ) → ℕ → List ℕ
script_word Devconf words which = slice_index_or words (3 + which) []
script_word Drvrun words which = slice_index_or words (1 + which) []
script_word Drvall words which = slice_index_or words (1 + bound_words words + which) []
script_word Devwhy words which = []

-- the line that tells of a status of these words, nothing where all went well
abbrev pub err_text : Program → List (List ℕ) → Status → List ℕ
err_text program words Ok = []
err_text program words (ConfigRefused file line code) = refused_text (codes "config") file line code ++ 10 ∷ []
err_text program words Usage = usage_text program ++ 10 ∷ []
err_text program words (MachineRefused line code) = refused_text (codes "machine") (machine_word program words) line code ++ 10 ∷ []
err_text program words (ScriptRefused which line code) = refused_text (codes "script") (script_word program words which) line code ++ 10 ∷ []
err_text program words (HistoryRefused line) = (place_text (codes "history") (script_word program words 0) line ++ codes ": refused") ++ 10 ∷ []
err_text program words (Stuck waits) = waits
err_text program words (Worlds most) = (codes "more than " ++ decimal most ++ codes " worlds") ++ 10 ∷ []
err_text program words (Unknown name) = (name ++ codes ": unknown") ++ 10 ∷ []
err_text program words (Absent name) = (name ++ codes ": absent") ++ 10 ∷ []
err_text program words (TooLong name) = (name ++ codes ": too long") ++ 10 ∷ []
err_text program words ReadFault = codes "read fault" ++ 10 ∷ []
err_text program words WriteFault = codes "write fault" ++ 10 ∷ []
err_text program words Memory = codes "out of memory" ++ 10 ∷ []
