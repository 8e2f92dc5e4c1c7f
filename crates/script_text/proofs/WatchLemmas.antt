-- What a watch file says, line by line.
use Rattle.std.proofs.Common.{◌≡◌, ℕ, ◌+◌, ◌<◌, ◌≤◌, List, [], ◌∷◌, ◌++◌, length, take, append_assoc, append-nil, arith, refl, ap, sym, ◌∙◌, Option, Some, None, Result, Ok, Err}
use Rattle.std.specs.Prelude.{filter_map, option_and_then, option_map, option_to_list}
use Rattle.std.specs.Borrow.{Bor}
use Rattle.std.specs.List.{cons_option, enumerate_from}
use Rattle.std.specs.Result.{result_ok}
use Rattle.std.proofs.lemmas.List.{length_push, take_at}
use Rattle.std.proofs.lemmas.List.Elements.{filter_map-append}
use Rattle.cf_types.specs.declared.code.script.TheConstants.{WRONG_WORDS}
use Rattle.config_rules.specs.ScriptText.{unless_bad}
use Rattle.machine_text.specs.Words.{seen}
use Rattle.machine_text.specs.declared.stop.LineStop.{LineStop}
use Rattle.machine_text.specs.declared.stop.LineStop.TheVariants.{Code, Memory}
use Rattle.script_text.specs.declared.watch_line.WatchLine.{WatchLine}
use Rattle.script_text.specs.Left.{Gives, stop_at}
use Rattle.script_text.specs.WatchLeft.{AddsLine}
use Rattle.script_text.specs.WatchText.{Saying, bad_sayings_of, lines_said, subscriber_in, turn_line, watch_code_after, watch_of, watch_says, watch_sayings}

-- ---- what lines say

abbrev pub said_from : ℕ → ℕ → List (List ℕ) → List Saying
said_from callers n lines = filter_map (λ l. option_map (λ said. (l.0, said)) (watch_says callers l.1)) (enumerate_from n lines)

-- the bad ones behind these lines
abbrev pub bad_after : List WatchLine → List Saying → List (ℕ × ℕ)
bad_after before [] = []
bad_after before (s ∷ ss) = cons_option (option_map (λ code. (s.0, code)) (watch_code_after before s.1)) (bad_after (before ++ option_to_list (result_ok s.1)) ss)

abbrev numbered : List Saying → ℕ → List Saying → List (ℕ × ℕ)
numbered all n ss = filter_map (λ s. option_map (λ code. (s.1.0, code)) (watch_code_after (lines_said (take s.0 all)) s.1.1)) (enumerate_from n ss)

abbrev first_code : List WatchLine → Saying → Option (ℕ × ℕ)
first_code before s = option_map (λ code. (s.0, code)) (watch_code_after before s.1)

one_said : (o : Option WatchLine) → cons_option o [] ≡ option_to_list o
one_said None = refl
one_said (Some l) = refl

said_push : (front : List Saying) (s : Saying) → lines_said (front ++ s ∷ []) ≡ lines_said front ++ option_to_list (result_ok s.1)
said_push front s = filter_map-append (λ t. result_ok t.1) front (s ∷ []) ∙ ap (λ (ls : List WatchLine). lines_said front ++ ls) (one_said (result_ok s.1))

numbered_is : (front ss : List Saying) → numbered (front ++ ss) (length front) ss ≡ bad_after (lines_said front) ss
numbered_is front [] = refl
numbered_is front (s ∷ ss) =
    ap (λ (g : List Saying). cons_option (first_code (lines_said g) s) (numbered (front ++ s ∷ ss) (length front + 1) ss)) (take_at front (s ∷ ss) (length front) refl)
    ∙ ap (λ (g : List Saying). cons_option (first_code (lines_said front) s) (numbered g (length front + 1) ss)) (sym (append_assoc front (s ∷ []) ss))
    ∙ ap (λ (n : ℕ). cons_option (first_code (lines_said front) s) (numbered ((front ++ s ∷ []) ++ ss) n ss)) (sym (length_push front s))
    ∙ ap (cons_option (first_code (lines_said front) s)) (numbered_is (front ++ s ∷ []) ss)
    ∙ ap (λ (ls : List WatchLine). cons_option (first_code (lines_said front) s) (bad_after ls ss)) (said_push front s)

pub bad_is : (callers : ℕ) (text : List ℕ) → bad_after [] (watch_sayings callers text) ≡ bad_sayings_of (watch_sayings callers text)
bad_is callers text = sym (numbered_is [] (watch_sayings callers text))

-- ---- one more line

abbrev said_with : ℕ → Option (Result WatchLine ℕ) → List Saying → List Saying
said_with n said more = cons_option (option_map (λ r. (n, r)) said) more

fine_with : (n : ℕ) (said : Option (Result WatchLine ℕ)) (more : List Saying) (old new : List WatchLine) → option_and_then (watch_code_after old) said ≡ None → new ≡ old ++ option_to_list (option_and_then result_ok said)
    → bad_after new more ≡ bad_after old (said_with n said more)
fine_with n None more old new none is = ap (λ (ls : List WatchLine). bad_after ls more) (is ∙ append-nil old)
fine_with n (Some (Ok l)) more old new none is =
    ap (λ (ls : List WatchLine). bad_after ls more) is
    ∙ sym (ap (λ (o : Option ℕ). cons_option (option_map (λ code. (n, code)) o) (bad_after (old ++ l ∷ []) more)) none)
fine_with n (Some (Err code)) more old new none is = absurd (cc)

lines_with : (n : ℕ) (said : Option (Result WatchLine ℕ)) (more : List Saying) (old new : List WatchLine) → option_and_then (watch_code_after old) said ≡ None → new ≡ old ++ option_to_list (option_and_then result_ok said)
    → new ++ lines_said more ≡ old ++ lines_said (said_with n said more)
lines_with n None more old new none is = ap (λ (ls : List WatchLine). ls ++ lines_said more) (is ∙ append-nil old)
lines_with n (Some (Ok l)) more old new none is = ap (λ (ls : List WatchLine). ls ++ lines_said more) is ∙ append_assoc old (l ∷ []) (lines_said more)
lines_with n (Some (Err code)) more old new none is = absurd (cc)

bad_with : (n : ℕ) (said : Option (Result WatchLine ℕ)) (more : List Saying) (old : List WatchLine) (code : ℕ) (all : List WatchLine) → option_and_then (watch_code_after old) said ≡ Some code
    → unless_bad (bad_after old (said_with n said more)) all ≡ Err (n, code)
bad_with n None more old code all h = absurd (cc)
bad_with n (Some r) more old code all h =
    ap (λ (o : Option ℕ). unless_bad (cons_option (option_map (λ code. (n, code)) o) (bad_after (old ++ option_to_list (result_ok r)) more)) all) h

-- a line that is not bad
pub fine_line : (callers n : ℕ) (line : List ℕ) {lines more : List (List ℕ)} (old new : List WatchLine) → lines ≡ line ∷ more → option_and_then (watch_code_after old) (watch_says callers line) ≡ None
    → new ≡ old ++ option_to_list (option_and_then result_ok (watch_says callers line)) → bad_after new (said_from callers (n + 1) more) ≡ bad_after old (said_from callers n lines)
fine_line callers n line {more = more} old new left none is =
    fine_with n (watch_says callers line) (said_from callers (n + 1) more) old new none is ∙ ap (λ ls. bad_after old (said_from callers n ls)) (sym left)

pub line_more : (callers n : ℕ) (line : List ℕ) {lines more : List (List ℕ)} (old new : List WatchLine) → lines ≡ line ∷ more → option_and_then (watch_code_after old) (watch_says callers line) ≡ None
    → new ≡ old ++ option_to_list (option_and_then result_ok (watch_says callers line)) → new ++ lines_said (said_from callers (n + 1) more) ≡ old ++ lines_said (said_from callers n lines)
line_more callers n line {more = more} old new left none is =
    lines_with n (watch_says callers line) (said_from callers (n + 1) more) old new none is ∙ ap (λ ls. old ++ lines_said (said_from callers n ls)) (sym left)

-- ---- the whole text

watch_bad : (callers : ℕ) (text : List ℕ) (n code : ℕ) → unless_bad (bad_sayings_of (watch_sayings callers text)) (lines_said (watch_sayings callers text)) ≡ Err (n, code) → watch_of callers text ≡ Err (n, code)
unfolding watch_of
watch_bad callers text n code h = h

pub watch_whole : (callers : ℕ) (text : List ℕ) (lines : List WatchLine) → [] ≡ bad_sayings_of (watch_sayings callers text) → lines ≡ lines_said (watch_sayings callers text) → watch_of callers text ≡ Ok lines
unfolding watch_of
watch_whole callers text lines none all =
    ap (λ (bad : List (ℕ × ℕ)). unless_bad bad (lines_said (watch_sayings callers text))) (sym none) ∙ ap (λ (ls : List WatchLine). Ok ls) (sym all)

-- the stop of a line
pub watch_stops : (callers : ℕ) (text : List ℕ) (n : ℕ) (line : List ℕ) {lines more : List (List ℕ)} (old new : List WatchLine) (stop : LineStop) → lines ≡ line ∷ more → AddsLine (watch_says callers line) old new (Err stop)
    → bad_after old (said_from callers n lines) ≡ bad_sayings_of (watch_sayings callers text) → Gives (watch_of callers text) (Err (stop_at n stop))
watch_stops callers text n line {more = more} old new (Code code) left h all =
    let lines : List WatchLine = lines_said (watch_sayings callers text) in
    watch_bad callers text n code
    (ap (λ (bad : List (ℕ × ℕ)). unless_bad bad lines) (sym all ∙ ap (λ ls. bad_after old (said_from callers n ls)) left)
    ∙ bad_with n (watch_says callers line) (said_from callers (n + 1) more) old code lines h)
watch_stops callers text n line old new Memory left h all = tt

-- ---- two words

pub few_words : (ws : List (Bor (List ℕ))) → length ws < 2 → subscriber_in (seen ws) ≡ Err WRONG_WORDS
few_words [] few = refl
few_words (w ∷ []) few = refl
few_words (v ∷ w ∷ ws) few = absurd (omega (arith, few))

pub many_words : (ws : List (Bor (List ℕ))) → 3 ≤ length ws → subscriber_in (seen ws) ≡ Err WRONG_WORDS
many_words [] many = absurd (omega (arith, many))
many_words (w ∷ []) many = absurd (omega (arith, many))
many_words (v ∷ w ∷ []) many = absurd (omega (arith, many))
many_words (u ∷ v ∷ w ∷ ws) many = refl

pub many_turns : (callers : ℕ) (ws : List (Bor (List ℕ))) → 2 ≤ length ws → turn_line callers (seen ws) ≡ Err WRONG_WORDS
many_turns callers [] many = absurd (omega (arith, many))
many_turns callers (w ∷ []) many = absurd (omega (arith, many))
many_turns callers (v ∷ w ∷ ws) many = refl
