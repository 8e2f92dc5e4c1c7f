-- The commands by which operands are read, as what a parse sees of them.
use Rattle.std.specs.Prelude.{ℕ, true, Some, List, codes}
use Rattle.clap.specs.Walk.{Rule}
use Rattle.clap.specs.Simple.{App, new_app, new_rule, on_top, with_rule}

-- an argument that has to be there
abbrev pub required_rule : List ℕ → Rule
required_rule id = record (new_rule id) { required = true }

-- a command without help, whose first word is an argument
abbrev pub bare_app : List ℕ → App
bare_app name = on_top (λ s. record s { no_binary_name = true; disable_help_flag = true }) (new_app name)

-- `FILE`
abbrev pub file_app : App
file_app = with_rule (bare_app (codes "file")) (required_rule (codes "file"))

-- `FILE MACHINE`
abbrev pub boot_app : App
boot_app = with_rule (with_rule (bare_app (codes "boot")) (required_rule (codes "file"))) (required_rule (codes "machine"))

-- from 1 to 16 scripts
abbrev pub scripts_rule : Rule
scripts_rule = record (required_rule (codes "scripts")) { range = Some (record { start_inclusive = 1; end_inclusive = 16 }) }

-- `FILE MACHINE COURSE SCRIPT..`
abbrev pub scripted_app : App
scripted_app = with_rule (with_rule (with_rule (with_rule (bare_app (codes "scripted")) (required_rule (codes "file"))) (required_rule (codes "machine"))) (required_rule (codes "course"))) scripts_rule
