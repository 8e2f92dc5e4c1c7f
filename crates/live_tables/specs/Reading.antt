-- What the calls that read a plan leave.
use Rattle.std.specs.Prelude.{◌≡◌, ℕ, List, [], ◌∷◌, ◌++◌, bytes_eq, codes, if◌then◌else◌, Option, Some, None, Result, Ok, Err, ⊤}
use Rattle.std.specs.Option.{option_map_or}
use Rattle.cf_text.specs.Shapes.{is_written}
use Rattle.cf_types.specs.declared.code.script.TheConstants.{NO_COMMAND, WRONG_WORDS}
use Rattle.cf_types.specs.declared.tables.Tables.{Tables}
use Rattle.config_rules.specs.Cut.{◌>>=◌}
use Rattle.machine_text.specs.declared.stop.LineStop.{LineStop}
use Rattle.machine_text.specs.declared.stop.LineStop.TheVariants.{Code, Memory}
use Rattle.live_rules.specs.declared.code.TheConstants.{NO_GROUP}
use Rattle.live_rules.specs.declared.plan.Group.{Group}
use Rattle.live_rules.specs.declared.plan.Plan.{Plan}
use Rattle.live_rules.specs.PlanText.{PlanLine, Adds, Removes, after_line, group_form, group_number, on_group, scan_form}
use Rattle.live_tables.specs.declared.verb.Verb.{Verb}
use Rattle.live_tables.specs.declared.verb.Verb.TheVariants as verb

-- the plan has become what the words give, or they have this code, or memory ran out
abbrev pub Becomes : Result Plan ℕ → Plan → Result ⊤ LineStop → Type 0
Becomes whole new (Ok done) = whole ≡ Ok new
Becomes whole new (Err (Code code)) = whole ≡ Err code
Becomes whole new (Err Memory) = ⊤

-- a group more
abbrev pub with_group : Plan → List ℕ → List ℕ → Plan
with_group p name devices = record p { groups = p.groups ++ record { name = name; devices = devices } ∷ [] }

-- the words with which lines begin
abbrev pub verb_of : List ℕ → Option Verb
verb_of word =
    if bytes_eq word (codes "group") then Some verb.Group
    else (if bytes_eq word (codes "add") then Some verb.Add
    else (if bytes_eq word (codes "remove") then Some verb.Remove
    else (if bytes_eq word (codes "scan") then Some verb.Scan
    else None)))

-- what each makes of the words behind it
abbrev pub form_by : Verb → List (List ℕ) → Result PlanLine ℕ
form_by verb.Group = group_form
form_by verb.Add = on_group Adds
form_by verb.Remove = on_group Removes
form_by verb.Scan = scan_form

-- the plan after a line of this verb and the words behind it, or its first code
abbrev pub line_by : Tables → Plan → Verb → List (List ℕ) → Result Plan ℕ
line_by t p v words = form_by v words >>= λ l. after_line t p l

-- the word itself, or its code
abbrev pub verb_or_code : List ℕ → Result Verb ℕ
verb_or_code word = option_map_or Ok (verb_of word) (Err NO_COMMAND)

-- the group that a word names, or its code
abbrev pub group_named : List Group → List ℕ → Result ℕ ℕ
group_named groups word = if is_written word then option_map_or Ok (group_number groups word) (Err NO_GROUP) else Err WRONG_WORDS

-- the group that one word names alone, or its code
abbrev pub one_group : List Group → List (List ℕ) → Result ℕ ℕ
one_group groups (word ∷ []) = group_named groups word
one_group groups _ = Err WRONG_WORDS
