-- What the lines of a plan mean, or the first bad line and its code. The format is this project's own.
use Rattle.std.specs.Prelude.{ℕ, ◌+◌, ◌<◌, ◌≤◌, Bool, ◌||◌, nat_le, if◌then◌else◌, List, [], ◌∷◌, ◌++◌, length, position, bytes_eq, codes, Option, is_some, Result, Ok, Err, ⊤, All}
use Rattle.std.specs.List.{enumerate_from, list_all, list_any}
use Rattle.std.specs.Option.{option_map_or}
use Rattle.cf_text.specs.Shapes.{is_written}
use Rattle.cf_types.specs.declared.code.script.TheConstants.{NO_COMMAND, WRONG_WORDS, TOO_MANY_COMMANDS}
use Rattle.cf_types.specs.declared.tables.Tables.{Tables}
use Rattle.cf_types.specs.Lines.{lines_of}
use Rattle.cf_types.specs.Lookups.{device_number}
use Rattle.config_rules.specs.Cut.{at_line, ◌>>=◌}
use Rattle.config_rules.specs.MachineText.{has_bad_byte, words_of}
use Rattle.run_rules.specs.World.{has}
use Rattle.live_rules.specs.declared.code.TheConstants.{DEVICE_TWICE, GROUP_TWICE, NO_DEVICE, NO_GROUP}
use Rattle.live_rules.specs.declared.plan.Group.{Group}
use Rattle.live_rules.specs.declared.plan.Plan.{Plan}
use Rattle.live_rules.specs.declared.plan.PlanCommand.{PlanCommand}
use Rattle.live_rules.specs.declared.plan.PlanCommand.TheVariants as command

-- ---- the forms of the lines

-- the lines of a plan by their forms
pub data PlanLine : Type 0 where
  Groups : (name : List ℕ) (devices : List (List ℕ)) → PlanLine
  Adds : (name : List ℕ) → PlanLine
  Removes : (name : List ℕ) → PlanLine
  Scans : PlanLine

-- `group G D..`, with one device or more
abbrev pub group_form : List (List ℕ) → Result PlanLine ℕ
group_form (name ∷ device ∷ devices) =
    if list_all is_written (name ∷ device ∷ devices) then Ok (Groups name (device ∷ devices)) else Err WRONG_WORDS
group_form _ = Err WRONG_WORDS

-- a command on one group
abbrev pub on_group : (List ℕ → PlanLine) → List (List ℕ) → Result PlanLine ℕ
on_group make (name ∷ []) = if is_written name then Ok (make name) else Err WRONG_WORDS
on_group make _ = Err WRONG_WORDS

-- `scan` has no other words
abbrev pub scan_form : List (List ℕ) → Result PlanLine ℕ
scan_form [] = Ok Scans
scan_form _ = Err WRONG_WORDS

-- the form, unless a byte of the line is not allowed
abbrev pub unless_bad : Bool → Result PlanLine ℕ → Result PlanLine ℕ
unless_bad bad form = if bad then Err WRONG_WORDS else form

-- the form of a line by its first word; an unknown one comes before a byte that is not allowed
abbrev pub line_form : Bool → List ℕ → List (List ℕ) → Result PlanLine ℕ
line_form bad word rest =
    if bytes_eq word (codes "group") then unless_bad bad (group_form rest)
    else (if bytes_eq word (codes "add") then unless_bad bad (on_group Adds rest)
    else (if bytes_eq word (codes "remove") then unless_bad bad (on_group Removes rest)
    else (if bytes_eq word (codes "scan") then unless_bad bad (scan_form rest)
    else Err NO_COMMAND)))

-- ---- what a line means after those before it

-- the number of a group of earlier lines
abbrev pub group_number : List Group → List ℕ → Option ℕ
group_number groups name = position (λ g. bytes_eq g.name name) groups

-- whether a device is in one of the groups
abbrev pub is_grouped : List Group → ℕ → Bool
is_grouped groups device = list_any (λ g. has g.devices device) groups

-- a device that joins others in a new group, or its code
abbrev pub new_member : Tables → List Group → List ℕ → List ℕ → Result ℕ ℕ
new_member t groups members name =
    option_map_or (λ d. if is_grouped groups d || has members d then Err DEVICE_TWICE else Ok d) (device_number t.devices name) (Err NO_DEVICE)

-- the devices of a new group, one by one, or the first code of one
abbrev pub members_of : Tables → List Group → List ℕ → List (List ℕ) → Result (List ℕ) ℕ
members_of t groups members [] = Ok members
members_of t groups members (name ∷ names) = new_member t groups members name >>= λ d. members_of t groups (members ++ d ∷ []) names

-- a plan has at most 500 lines with words
abbrev pub unless_full : {A : Type 0} → Plan → A → Result A ℕ
unless_full p x = if nat_le 500 (length p.groups + length p.commands) then Err TOO_MANY_COMMANDS else Ok x

-- with one command more
abbrev pub with_command : Plan → PlanCommand → Result Plan ℕ
with_command p c = unless_full p (record p { commands = p.commands ++ c ∷ [] })

-- with a command on a group of an earlier line
abbrev pub with_group_command : Plan → List ℕ → (ℕ → PlanCommand) → Result Plan ℕ
with_group_command p name make = option_map_or (λ g. with_command p (make g)) (group_number p.groups name) (Err NO_GROUP)

-- with one group more
abbrev pub with_group : Tables → Plan → List ℕ → List (List ℕ) → Result Plan ℕ
with_group t p name devices =
    if is_some (group_number p.groups name) then Err GROUP_TWICE
    else members_of t p.groups [] devices >>= λ members. unless_full p (record p { groups = p.groups ++ record { name = name; devices = members } ∷ [] })

-- the plan after a line of this form, or its first code
abbrev pub after_line : Tables → Plan → PlanLine → Result Plan ℕ
after_line t p (Groups name devices) = with_group t p name devices
after_line t p (Adds name) = with_group_command p name command.Add
after_line t p (Removes name) = with_group_command p name command.Remove
after_line t p Scans = with_command p command.Scan

-- the same of the words of a line; where there are none it says nothing
abbrev pub after_words : Tables → Plan → Bool → List (List ℕ) → Result Plan ℕ
after_words t p bad [] = Ok p
after_words t p bad (word ∷ rest) = line_form bad word rest >>= λ l. after_line t p l

-- the plan after these lines, which are numbered
abbrev pub after_lines : Tables → List (ℕ × List ℕ) → Plan → Result Plan (ℕ × ℕ)
after_lines t [] p = Ok p
after_lines t (l ∷ ls) p = at_line l.0 (after_words t p (has_bad_byte l.1) (words_of l.1)) >>= λ q. after_lines t ls q

abbrev pub no_plan : Plan
no_plan = record { groups = []; commands = [] }

-- the plan that a text says, or the first bad line and its code
unfoldable pub plan_of : Tables → List ℕ → Result Plan (ℕ × ℕ)
plan_of t text = after_lines t (enumerate_from 1 (lines_of text)) no_plan

-- ---- formed plans

-- a command is on a group that is there
abbrev pub IsOnGroup : List Group → PlanCommand → Type 0
IsOnGroup groups (command.Add g) = g < length groups
IsOnGroup groups (command.Remove g) = g < length groups
IsOnGroup groups command.Scan = ⊤

-- at most 500 groups and commands, which are on these groups
pub record FormedPlan (p : Plan) : Type 0 where
  pub few : length p.groups + length p.commands ≤ 500
  pub commands : All (IsOnGroup p.groups) p.commands
