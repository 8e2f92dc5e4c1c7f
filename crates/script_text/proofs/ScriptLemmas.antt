-- What a script says, line by line.
use Rattle.std.proofs.Common.{◌≡◌, ℕ, ◌+◌, List, [], ◌∷◌, ◌++◌, length, append_assoc, append-nil, ap, sym, ◌∙◌, Option, Some, None, Result, Ok, Err}
use Rattle.std.specs.Prelude.{option_and_then, option_map, option_to_list}
use Rattle.std.specs.List.{cons_option}
use Rattle.std.specs.Result.{result_ok}
use Rattle.std.proofs.lemmas.List.{length_push}
use Rattle.cf_types.specs.declared.machine.Command.{Command}
use Rattle.config_rules.specs.ScriptText.{bad_sayings, code_after, commands_in, line_says, unless_bad}
use Rattle.config_rules.specs.ScriptText as script
use Rattle.config_rules.proofs.ScriptLaws.{bad_said, commands_said, said_from}
use Rattle.machine_text.specs.declared.stop.LineStop.{LineStop}
use Rattle.machine_text.specs.declared.stop.LineStop.TheVariants.{Code, Memory}
use Rattle.script_text.specs.Left.{Adds, Gives, stop_at}

-- what one more line says
abbrev said_with : ℕ → Option (Result Command ℕ) → List (ℕ × Result Command ℕ) → List (ℕ × Result Command ℕ)
said_with n said more = cons_option (option_map (λ r. (n, r)) said) more

fine_with : (n : ℕ) (said : Option (Result Command ℕ)) (more : List (ℕ × Result Command ℕ)) (old new : List Command) → option_and_then (code_after (length old)) said ≡ None → new ≡ old ++ option_to_list (option_and_then result_ok said)
    → bad_said (length new) more ≡ bad_said (length old) (said_with n said more)
fine_with n None more old new none is = ap (λ (cs : List Command). bad_said (length cs) more) (is ∙ append-nil old)
fine_with n (Some (Ok c)) more old new none is =
    ap (λ i. bad_said i more) (ap length is ∙ length_push old c)
    ∙ sym (ap (λ (o : Option ℕ). cons_option (option_map (λ code. (n, code)) o) (bad_said (length old + 1) more)) none)
fine_with n (Some (Err code)) more old new none is = absurd (cc)

commands_with : (n : ℕ) (said : Option (Result Command ℕ)) (more : List (ℕ × Result Command ℕ)) (old new : List Command) → option_and_then (code_after (length old)) said ≡ None → new ≡ old ++ option_to_list (option_and_then result_ok said)
    → new ++ commands_said more ≡ old ++ commands_said (said_with n said more)
commands_with n None more old new none is = ap (λ (cs : List Command). cs ++ commands_said more) (is ∙ append-nil old)
commands_with n (Some (Ok c)) more old new none is = ap (λ (cs : List Command). cs ++ commands_said more) is ∙ append_assoc old (c ∷ []) (commands_said more)
commands_with n (Some (Err code)) more old new none is = absurd (cc)

bad_with : (n : ℕ) (said : Option (Result Command ℕ)) (more : List (ℕ × Result Command ℕ)) (old : List Command) (code : ℕ) (all : List Command) → option_and_then (code_after (length old)) said ≡ Some code
    → unless_bad (bad_said (length old) (said_with n said more)) all ≡ Err (n, code)
bad_with n None more old code all h = absurd (cc)
bad_with n (Some r) more old code all h = ap (λ (o : Option ℕ). unless_bad (cons_option (option_map (λ code. (n, code)) o) (bad_said (length old + 1) more)) all) h

-- a line that is not bad
pub fine_line : (n : ℕ) (line : List ℕ) {lines more : List (List ℕ)} (old new : List Command) → lines ≡ line ∷ more → option_and_then (code_after (length old)) (line_says line) ≡ None → new ≡ old ++ option_to_list (option_and_then result_ok (line_says line))
    → bad_said (length new) (said_from (n + 1) more) ≡ bad_said (length old) (said_from n lines)
fine_line n line {more = more} old new left none is =
    fine_with n (line_says line) (said_from (n + 1) more) old new none is ∙ ap (λ ls. bad_said (length old) (said_from n ls)) (sym left)

pub line_more : (n : ℕ) (line : List ℕ) {lines more : List (List ℕ)} (old new : List Command) → lines ≡ line ∷ more → option_and_then (code_after (length old)) (line_says line) ≡ None → new ≡ old ++ option_to_list (option_and_then result_ok (line_says line))
    → new ++ commands_said (said_from (n + 1) more) ≡ old ++ commands_said (said_from n lines)
line_more n line {more = more} old new left none is =
    commands_with n (line_says line) (said_from (n + 1) more) old new none is ∙ ap (λ ls. old ++ commands_said (said_from n ls)) (sym left)

-- a bad line
bad_line : (n : ℕ) (line : List ℕ) (lines : List (List ℕ)) (old : List Command) (code : ℕ) (all : List Command) → option_and_then (code_after (length old)) (line_says line) ≡ Some code
    → unless_bad (bad_said (length old) (said_from n (line ∷ lines))) all ≡ Err (n, code)
bad_line n line lines old code all h = bad_with n (line_says line) (said_from (n + 1) lines) old code all h

-- ---- the whole text

pub script_bad : (text : List ℕ) (n code : ℕ) → unless_bad (bad_sayings text) (commands_in text) ≡ Err (n, code) → script.commands_of text ≡ Err (n, code)
unfolding script.commands_of
script_bad text n code h = h

pub script_whole : (text : List ℕ) (commands : List Command) → [] ≡ bad_sayings text → commands ≡ commands_in text → script.commands_of text ≡ Ok commands
unfolding script.commands_of
script_whole text commands none all = ap (λ (bad : List (ℕ × ℕ)). unless_bad bad (commands_in text)) (sym none) ∙ ap (λ (cs : List Command). Ok cs) (sym all)

-- the stop of a line
pub script_stops : (text : List ℕ) (n : ℕ) (line : List ℕ) {lines more : List (List ℕ)} (old new : List Command) (stop : LineStop) → lines ≡ line ∷ more → Adds (line_says line) old new (Err stop)
    → bad_said (length old) (said_from n lines) ≡ bad_sayings text → Gives (script.commands_of text) (Err (stop_at n stop))
script_stops text n line {more = more} old new (Code code) left h all =
    script_bad text n code (ap (λ (bad : List (ℕ × ℕ)). unless_bad bad (commands_in text)) (sym all ∙ ap (λ ls. bad_said (length old) (said_from n ls)) left) ∙ bad_line n line more old code (commands_in text) h)
script_stops text n line old new Memory left h all = tt
