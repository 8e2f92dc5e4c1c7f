-- The turns of an order file, word by word and line by line.
use Rattle.std.proofs.Common.{◌≡◌, ℕ, ◌+◌, Bool, true, false, cond, not, ◌&&◌, List, [], ◌∷◌, ◌++◌, length, append_assoc, refl, ap, sym, ◌∙◌, Option, Some, None, ℤ, Result, Ok, Err}
use Rattle.std.specs.Prelude.{filter, flat_map, is_some, nat_abs, nat_lt, option_map, ◌==◌, ◌||◌}
use Rattle.std.specs.List.{cons_option, list_all}
use Rattle.std.specs.Option.{option_map_or}
use Rattle.std.proofs.lemmas.List.Elements.{filter_map-append}
use Rattle.cf_text.specs.Shapes.{number}
use Rattle.cf_types.specs.declared.code.script.TheConstants.{OUT_OF_RANGE, WRONG_WORDS}
use Rattle.cf_types.specs.Lines.{lines_of}
use Rattle.config_rules.specs.Cut.{◌>>=◌}
use Rattle.config_rules.specs.Form.{given, ◌or◌}
use Rattle.config_rules.specs.MachineText.{has_bad_byte, words_of}
use Rattle.config_rules.specs.ScriptText.{bad_turns, is_caller, spells_number, is_turn, natural_within, order_of, turns_code, turns_of, unless_bad, value_within}
use Rattle.config_rules.proofs.ScriptLaws.{bad_turns_from}
use Rattle.machine_text.proofs.TextLemmas.{empty_word, not_empty}
use Rattle.machine_text.specs.declared.stop.LineStop.{LineStop}
use Rattle.machine_text.specs.declared.stop.LineStop.TheVariants.{Code, Memory}
use Rattle.script_text.specs.Left.{AddsTurns, AddsWords, Gives, Leaves, stop_at}

-- ---- one word

abbrev natural : (ℤ → Bool) → Option ℤ → Result ℕ ℕ
natural fits o = value_within fits o >>= λ v. Ok (nat_abs v)

abbrev natural_if : Bool → ℤ → Result ℕ ℕ
natural_if b v = cond b (Ok v) (Err OUT_OF_RANGE) >>= λ v. Ok (nat_abs v)

turn_if : (b : Bool) (v : ℤ) (n : ℕ) → natural_if b v ≡ Ok n → (b ≡ true) × (Some (nat_abs v) ≡ Some n)
turn_if true v n h = (refl, cc)
turn_if false v n h = absurd (cc)

turn_of : (fits : ℤ → Bool) (o : Option ℤ) (n : ℕ) → natural fits o ≡ Ok n → (option_map_or fits o false ≡ true) × (option_map nat_abs o ≡ Some n)
turn_of fits None n h = absurd (cc)
turn_of fits (Some v) n h = turn_if (fits v) v n h

bad_if : (b : Bool) (v : ℤ) (code : ℕ) → natural_if b v ≡ Err code → b ≡ false
bad_if true v code h = absurd (cc)
bad_if false v code h = refl

bad_of : (fits : ℤ → Bool) (o : Option ℤ) (code : ℕ) → natural fits o ≡ Err code → option_map_or fits o false ≡ false
bad_of fits None code h = refl
bad_of fits (Some v) code h = bad_if (fits v) v code h

-- ---- the words of a line, part by part

abbrev some_left : List (List ℕ) → List (List ℕ)
some_left parts = filter (λ w. nat_lt 0 (length w)) parts

word_here : (word : List ℕ) {parts more : List (List ℕ)} → parts ≡ word ∷ more → nat_lt 0 (length word) ≡ true → some_left parts ≡ word ∷ some_left more
word_here word {more = more} left h = ap some_left left ∙ ap (λ b. cond b (word ∷ some_left more) (some_left more)) h

pub word_none : (word : List ℕ) {parts more : List (List ℕ)} → parts ≡ word ∷ more → nat_lt 0 (length word) ≡ false → some_left parts ≡ some_left more
word_none word {more = more} left h = ap some_left left ∙ ap (λ b. cond b (word ∷ some_left more) (some_left more)) h

-- ---- all of them are numbers

pub numbers_left : (word : List ℕ) {parts more : List (List ℕ)} → parts ≡ word ∷ more → (length word == 0 || spells_number word) ≡ true → list_all spells_number (some_left more) ≡ list_all spells_number (some_left parts)
numbers_left word {parts = parts} {more = more} left fine = cases (length word == 0) refl fine
  where
    cases : (b : Bool) → (length word == 0) ≡ b → (b || spells_number word) ≡ true → list_all spells_number (some_left more) ≡ list_all spells_number (some_left parts)
    cases true e k = ap (list_all spells_number) (sym (word_none word left (empty_word word e)))
    cases false e k = ap (λ b. b && list_all spells_number (some_left more)) (sym k) ∙ ap (list_all spells_number) (sym (word_here word left (not_empty word e)))

pub no_number : (word : List ℕ) {parts more : List (List ℕ)} → parts ≡ word ∷ more → (length word == 0 || spells_number word) ≡ false → list_all spells_number (some_left parts) ≡ false
no_number word {parts = parts} {more = more} left fine = cases (length word == 0) refl fine
  where
    cases : (b : Bool) → (length word == 0) ≡ b → (b || spells_number word) ≡ false → list_all spells_number (some_left parts) ≡ false
    cases true e k = absurd cc
    cases false e k = ap (list_all spells_number) (word_here word left (not_empty word e)) ∙ ap (λ b. b && list_all spells_number (some_left more)) k

-- ---- and each is that of a caller

-- a word whose number is not that of a caller
pub words_stop : (callers : ℕ) (ws : List (List ℕ)) (old new : List ℕ) (word : List ℕ) (stop : LineStop) {parts more : List (List ℕ)} → parts ≡ word ∷ more → nat_lt 0 (length word) ≡ true
    → list_all (is_turn callers) (some_left parts) ≡ list_all (is_turn callers) ws
    → Leaves (natural_within (is_caller callers) word) (Err stop) → AddsWords callers ws old new (Err stop)
words_stop callers ws old new word (Code code) {more = more} left h same e =
    sym same ∙ ap (list_all (is_turn callers)) (word_here word left h)
    ∙ ap (λ b. b && list_all (is_turn callers) (some_left more)) (bad_of (is_caller callers) (number word) code e)
words_stop callers ws old new word Memory left h same e = tt

-- one more word with the number of a caller
pub all_more : (callers : ℕ) (word : List ℕ) (n : ℕ) {parts more : List (List ℕ)} → parts ≡ word ∷ more → nat_lt 0 (length word) ≡ true → natural_within (is_caller callers) word ≡ Ok n
    → list_all (is_turn callers) (some_left more) ≡ list_all (is_turn callers) (some_left parts)
all_more callers word n {more = more} left h e =
    ap (λ b. b && list_all (is_turn callers) (some_left more)) (sym (turn_of (is_caller callers) (number word) n e).0) ∙ ap (list_all (is_turn callers)) (sym (word_here word left h))

pub turns_more : (callers : ℕ) (word : List ℕ) (n : ℕ) (front : List ℕ) {parts more : List (List ℕ)} → parts ≡ word ∷ more → nat_lt 0 (length word) ≡ true → natural_within (is_caller callers) word ≡ Ok n
    → (front ++ n ∷ []) ++ turns_of (some_left more) ≡ front ++ turns_of (some_left parts)
turns_more callers word n front {more = more} left h e =
    append_assoc front (n ∷ []) (turns_of (some_left more))
    ∙ ap (λ (o : Option ℕ). front ++ cons_option o (turns_of (some_left more))) (sym (turn_of (is_caller callers) (number word) n e).1)
    ∙ ap (λ ws. front ++ turns_of ws) (sym (word_here word left h))

-- ---- the code of a line

caller_is_number : (fits : ℤ → Bool) (o : Option ℤ) → option_map_or fits o false ≡ true → is_some o ≡ true
caller_is_number fits None h = absurd cc
caller_is_number fits (Some v) h = refl

both_true : (a b : Bool) → (a && b) ≡ true → (a ≡ true) × (b ≡ true)
both_true true b h = (refl, h)
both_true false b h = absurd cc

-- callers are spelled by numbers
callers_are_numbers : (callers : ℕ) (ws : List (List ℕ)) → list_all (is_turn callers) ws ≡ true → list_all spells_number ws ≡ true
callers_are_numbers callers [] h = refl
callers_are_numbers callers (w ∷ ws) h =
    let both = both_true (is_turn callers w) (list_all (is_turn callers) ws) h in
    rw (caller_is_number (is_caller callers) (number w) both.0, callers_are_numbers callers ws both.1) refl

abbrev code_by : Bool → Bool → Bool → Option ℕ
code_by bad numbers turns = given (bad || not numbers) WRONG_WORDS or given (not turns) OUT_OF_RANGE

-- a line of callers has no code
pub no_code : (callers : ℕ) (line : List ℕ) → has_bad_byte line ≡ false → list_all (is_turn callers) (words_of line) ≡ true → turns_code callers line ≡ None
no_code callers line fine all =
    ap (λ b. code_by b (list_all spells_number (words_of line)) (list_all (is_turn callers) (words_of line))) fine
    ∙ ap (λ b. code_by false b (list_all (is_turn callers) (words_of line))) (callers_are_numbers callers (words_of line) all)
    ∙ ap (code_by false true) all

-- ---- the lines of a file

abbrev pub turns_in : List (List ℕ) → List ℕ
turns_in lines = turns_of (flat_map words_of lines)

-- a line without a code
pub fine_line : (callers n : ℕ) (line : List ℕ) {lines more : List (List ℕ)} → lines ≡ line ∷ more → turns_code callers line ≡ None → bad_turns_from callers (n + 1) more ≡ bad_turns_from callers n lines
fine_line callers n line {more = more} left h =
    sym (ap (bad_turns_from callers n) left ∙ ap (λ (o : Option ℕ). cons_option (option_map (λ code. (n, code)) o) (bad_turns_from callers (n + 1) more)) h)

-- a line with a code
bad_line : (callers n : ℕ) (line : List ℕ) (lines : List (List ℕ)) (code : ℕ) (turns : List ℕ) → turns_code callers line ≡ Some code → unless_bad (bad_turns_from callers n (line ∷ lines)) turns ≡ Err (n, code)
bad_line callers n line lines code turns h = ap (λ (o : Option ℕ). unless_bad (cons_option (option_map (λ code. (n, code)) o) (bad_turns_from callers (n + 1) lines)) turns) h

pub line_more : (front new : List ℕ) (line : List ℕ) {lines more : List (List ℕ)} → lines ≡ line ∷ more → new ≡ front ++ turns_of (words_of line) → new ++ turns_in more ≡ front ++ turns_in lines
line_more front new line {more = more} left h =
    ap (λ ns. ns ++ turns_in more) h ∙ append_assoc front (turns_of (words_of line)) (turns_in more)
    ∙ ap (λ ns. front ++ ns) (sym (filter_map-append (λ word. option_map nat_abs (number word)) (words_of line) (flat_map words_of more)))
    ∙ ap (λ ls. front ++ turns_in ls) (sym left)

-- ---- the whole text

abbrev all_turns : List ℕ → List ℕ
all_turns text = turns_in (lines_of text)

order_bad : (callers : ℕ) (text : List ℕ) (n code : ℕ) → unless_bad (bad_turns callers text) (all_turns text) ≡ Err (n, code) → order_of callers text ≡ Err (n, code)
unfolding order_of
order_bad callers text n code h = h

pub order_whole : (callers : ℕ) (text turns : List ℕ) → [] ≡ bad_turns callers text → turns ≡ turns_in (lines_of text) → order_of callers text ≡ Ok turns
unfolding order_of
order_whole callers text turns none all = ap (λ (bad : List (ℕ × ℕ)). unless_bad bad (all_turns text)) (sym none) ∙ ap (λ (ns : List ℕ). Ok ns) (sym all)

-- the stop of a line
pub order_stops : (callers : ℕ) (text : List ℕ) (n : ℕ) (line : List ℕ) {lines more : List (List ℕ)} (old new : List ℕ) (stop : LineStop) → lines ≡ line ∷ more → AddsTurns callers line old new (Err stop)
    → bad_turns_from callers n lines ≡ bad_turns callers text → Gives (order_of callers text) (Err (stop_at n stop))
order_stops callers text n line {more = more} old new (Code code) left h all =
    order_bad callers text n code (ap (λ (bad : List (ℕ × ℕ)). unless_bad bad (all_turns text)) (sym all ∙ ap (bad_turns_from callers n) left) ∙ bad_line callers n line more code (all_turns text) h)
order_stops callers text n line old new Memory left h all = tt
