-- The lines of a watch file, or the first bad line and its code. The format is this project's own.
use Rattle.std.specs.Prelude.{◌≤◌, ℕ, Bool, false, not, ◌&&◌, ◌==◌, nat_le, if◌then◌else◌, List, [], ◌∷◌, length, take, filter_map, bytes_eq, codes, Option, Some, None, option_map, Result, Ok, Err, ℤ, pos, int_le, ⊤}
use Rattle.std.specs.List.{enumerate_from, list_any}
use Rattle.std.specs.Option.{option_map_or}
use Rattle.std.specs.Result.{result_ok}
use Rattle.cf_types.specs.declared.code.script.TheConstants.{NO_COMMAND, WRONG_WORDS}
use Rattle.cf_types.specs.Lines.{lines_of}
use Rattle.config_rules.specs.Cut.{◌>>=◌}
use Rattle.config_rules.specs.Form.{given, ◌or◌}
use Rattle.config_rules.specs.MachineText.{has_bad_byte, words_of}
use Rattle.config_rules.specs.ScriptText.{spells_number, natural_within, unless_bad}
use Rattle.script_text.specs.declared.watch_code.TheConstants.{NOT_SUBSCRIBED, SUBSCRIBED_TWICE, TOO_MANY_LINES}
use Rattle.script_text.specs.declared.watch_line.WatchLine.{WatchLine}
use Rattle.script_text.specs.declared.watch_line.WatchLine.TheVariants.{Boot, Read, Sub, Turn}
use Rattle.script_text.specs.declared.watch_line.WatchVerb.{WatchVerb}
use Rattle.script_text.specs.declared.watch_line.WatchVerb.TheVariants as verb

-- ---- one line

-- a number from low to high
abbrev pub between : ℕ → ℕ → ℤ → Bool
between low high v = int_le (pos low) v && int_le v (pos high)

-- the word with which a line begins
abbrev pub watch_verb : List ℕ → Option WatchVerb
watch_verb word =
    if bytes_eq word (codes "boot") then Some verb.Boot
    else (if bytes_eq word (codes "turn") then Some verb.Turn
    else (if bytes_eq word (codes "sub") then Some verb.Sub
    else (if bytes_eq word (codes "read") then Some verb.Read else None)))

-- `boot` alone
abbrev pub boot_line : List (List ℕ) → Result WatchLine ℕ
boot_line [] = Ok Boot
boot_line _ = Err WRONG_WORDS

-- `turn K`: the boot's caller or that of a script
abbrev pub turn_line : ℕ → List (List ℕ) → Result WatchLine ℕ
turn_line callers (k ∷ []) = natural_within (between 0 callers) k >>= λ n. Ok (Turn n)
turn_line callers _ = Err WRONG_WORDS

-- a subscriber from 1 to 16 and a number of notes from 1 to 64; the shapes of both come before the range of either
abbrev pub subscriber_of : List ℕ → List ℕ → Result (ℕ × ℕ) ℕ
subscriber_of who many =
    if spells_number who && spells_number many
    then (natural_within (between 1 16) who >>= λ s. natural_within (between 1 64) many >>= λ n. Ok (s, n))
    else Err WRONG_WORDS

-- `S N`
abbrev pub subscriber_in : List (List ℕ) → Result (ℕ × ℕ) ℕ
subscriber_in (who ∷ many ∷ []) = subscriber_of who many
subscriber_in _ = Err WRONG_WORDS

-- what the words behind the first one make of it
abbrev pub watch_by : ℕ → WatchVerb → List (List ℕ) → Result WatchLine ℕ
watch_by callers verb.Boot words = boot_line words
watch_by callers verb.Turn words = turn_line callers words
watch_by callers verb.Sub words = subscriber_in words >>= λ p. Ok (Sub p.0 p.1)
watch_by callers verb.Read words = subscriber_in words >>= λ p. Ok (Read p.0 p.1)

-- a word that no line begins with stands before a byte that is not allowed
abbrev pub watch_word : ℕ → Bool → List ℕ → List (List ℕ) → Result WatchLine ℕ
watch_word callers bad word words =
    option_map_or (λ v. if bad then Err WRONG_WORDS else watch_by callers v words) (watch_verb word) (Err NO_COMMAND)

-- what the words of a line say: nothing where there are none
abbrev pub watch_words : ℕ → Bool → List (List ℕ) → Option (Result WatchLine ℕ)
watch_words callers bad [] = None
watch_words callers bad (word ∷ words) = Some (watch_word callers bad word words)

abbrev pub watch_says : ℕ → List ℕ → Option (Result WatchLine ℕ)
watch_says callers line = watch_words callers (has_bad_byte line) (words_of line)

-- ---- all lines

-- a line of a watch file with its number, or its code
abbrev pub Saying : Type 0
Saying = ℕ × Result WatchLine ℕ

-- what the lines with words say, with the numbers of the lines
abbrev pub watch_sayings : ℕ → List ℕ → List Saying
watch_sayings callers text = filter_map (λ l. option_map (λ said. (l.0, said)) (watch_says callers l.1)) (enumerate_from 1 (lines_of text))

-- the lines that are said
abbrev pub lines_said : List Saying → List WatchLine
lines_said said = filter_map (λ s. result_ok s.1) said

abbrev pub is_sub_of : ℕ → WatchLine → Bool
is_sub_of who (Sub s n) = s == who
is_sub_of who _ = false

-- one of these lines subscribes who
abbrev pub has_subscribed : ℕ → List WatchLine → Bool
has_subscribed who lines = list_any (is_sub_of who) lines

-- the code of a line behind others: nobody subscribes twice, and who reads has subscribed
abbrev pub subscription_code : List WatchLine → WatchLine → Option ℕ
subscription_code before (Sub who n) = given (has_subscribed who before) SUBSCRIBED_TWICE
subscription_code before (Read who n) = given (not (has_subscribed who before)) NOT_SUBSCRIBED
subscription_code before _ = None

-- the code of what is said behind these lines: there are at most 10,000
abbrev pub watch_code_after : List WatchLine → Result WatchLine ℕ → Option ℕ
watch_code_after before (Err code) = Some code
watch_code_after before (Ok line) = subscription_code before line or given (nat_le 10000 (length before)) TOO_MANY_LINES

-- the bad lines with their codes
abbrev pub bad_sayings_of : List Saying → List (ℕ × ℕ)
bad_sayings_of said =
    filter_map (λ s. option_map (λ code. (s.1.0, code)) (watch_code_after (lines_said (take s.0 said)) s.1.1)) (enumerate_from 0 said)

-- the lines of a watch file for so many callers, or the first bad line and its code
unfoldable pub watch_of : ℕ → List ℕ → Result (List WatchLine) (ℕ × ℕ)
watch_of callers text = unless_bad (bad_sayings_of (watch_sayings callers text)) (lines_said (watch_sayings callers text))

-- ---- formed lines

-- its numbers are in their ranges
abbrev pub FormedWatchLine : ℕ → WatchLine → Type 0
FormedWatchLine callers Boot = ⊤
FormedWatchLine callers (Turn k) = k ≤ callers
FormedWatchLine callers (Sub who room) = (1 ≤ who) × (who ≤ 16) × (1 ≤ room) × (room ≤ 64)
FormedWatchLine callers (Read who most) = (1 ≤ who) × (who ≤ 16) × (1 ≤ most) × (most ≤ 64)
