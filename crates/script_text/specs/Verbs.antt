-- The words with which commands begin, and what each makes of the words behind it.
use Rattle.std.specs.Prelude.{ℕ, List, codes, Result}
use Rattle.cf_types.specs.declared.machine.Command.{Command}
use Rattle.cf_types.specs.declared.machine.Command.TheVariants as command
use Rattle.config_rules.specs.ScriptText.{CommandRow, io_form, on_any, on_one, open_form, rescan_form, row}
use Rattle.script_text.specs.declared.verb.Verb.{Verb}
use Rattle.script_text.specs.declared.verb.Verb.TheVariants as verb

-- the word itself
abbrev pub spelling_of : Verb → List ℕ
spelling_of verb.Open = codes "open"
spelling_of verb.Close = codes "close"
spelling_of verb.Io = codes "io"
spelling_of verb.Detach = codes "detach"
spelling_of verb.Rescan = codes "rescan"
spelling_of verb.List = codes "list"
spelling_of verb.Tree = codes "tree"
spelling_of verb.Suspend = codes "suspend"
spelling_of verb.Resume = codes "resume"
spelling_of verb.ResumeTree = codes "resumetree"
spelling_of verb.Plug = codes "plug"
spelling_of verb.Unplug = codes "unplug"

-- the command of the words behind it
abbrev pub form_by : Verb → List (List ℕ) → Result Command ℕ
form_by verb.Open = open_form
form_by verb.Close = on_one command.CloseDev
form_by verb.Io = io_form
form_by verb.Detach = on_one command.Detach
form_by verb.Rescan = rescan_form
form_by verb.List = on_any command.ListDev
form_by verb.Tree = on_any command.TreeDev
form_by verb.Suspend = on_one command.Suspend
form_by verb.Resume = on_one command.Resume
form_by verb.ResumeTree = on_one command.ResumeTree
form_by verb.Plug = on_one command.Plug
form_by verb.Unplug = on_one command.Unplug

-- its row in the table of commands
abbrev pub row_by : Verb → CommandRow
row_by v = row (spelling_of v) (form_by v)
