-- The lines of a machine file, one after the other.
use Rattle.std.proofs.Common.{◌≡◌, ℕ, ◌+◌, ◌-◌, ◌<◌, ◌≤◌, Bool, true, false, cond, length, get_or, take, drop, map, List, [], ◌∷◌, refl, ap, sym, ◌∙◌, arith, Some, None, Result, Ok, Err}
use Rattle.std.specs.Prelude.{IfOk, bytes_eq, codes, filter, nat_lt}
use Rattle.std.specs.Borrow.{Bor}
use Rattle.std.specs.List.{enumerate_from}
use Rattle.std.specs.Option.{option_map_or}
use Rattle.cf_types.specs.declared.code.machine.TheConstants.{BAD_LINE}
use Rattle.std.proofs.lemmas.List.{take_all}
use Rattle.cf_types.specs.declared.machine.Machine.{Machine}
use Rattle.cf_types.specs.declared.tables.Tables.{Tables}
use Rattle.config_rules.specs.Cut.{at_line, ◌>>=◌}
use Rattle.config_rules.specs.Formed.{FittingMachine}
use Rattle.config_rules.proofs.MachineLaws.{machine_fits}
use Rattle.config_rules.specs.MachineText.{WordLine, after_line, after_lines, bad_line, line_form, machine_of, match_line, no_machine, spot_line, style_line, word_lines, words_of}
use Rattle.machine_text.specs.declared.line.MachineStop.{MachineStop}
use Rattle.machine_text.specs.declared.line.MachineStop.TheVariants.{Fault, Memory}
use Rattle.machine_text.specs.Words.{seen}
use Rattle.machine_model.specs.Left.{Gives, after_words}

-- a slice pattern's three words and the others
pub three_words : (ws : List (Bor (List ℕ))) (d : Bor (List ℕ)) → 3 ≤ length ws → (get_or ws 0 d).now ∷ (get_or ws 1 d).now ∷ (get_or ws 2 d).now ∷ seen (take (length ws - 3) (drop 3 ws)) ≡ seen ws
three_words [] d h = absurd (omega arith)
three_words (x ∷ []) d h = absurd (omega arith)
three_words (x ∷ y ∷ []) d h = absurd (omega arith)
three_words (x ∷ y ∷ z ∷ ws) d h = ap (λ w. x.now ∷ y.now ∷ z.now ∷ seen w) (take_all (length (x ∷ y ∷ z ∷ ws) - 3) ws (omega arith))

-- too few or too many words behind the first one of a line
pub few_words : (ws : List (Bor (List ℕ))) → length ws < 3 → (spot_line (seen ws) ≡ None) × (match_line (seen ws) ≡ None) × (style_line (seen ws) ≡ None)
few_words [] h = (refl, refl, refl)
few_words (a ∷ []) h = (refl, refl, refl)
few_words (a ∷ b ∷ []) h = (refl, refl, refl)
few_words (a ∷ b ∷ c ∷ ws) h = absurd (omega arith)

pub many_words : (ws : List (Bor (List ℕ))) → 3 < length ws → (match_line (seen ws) ≡ None) × (style_line (seen ws) ≡ None)
many_words [] h = absurd (omega arith)
many_words (a ∷ []) h = absurd (omega arith)
many_words (a ∷ b ∷ []) h = absurd (omega arith)
many_words (a ∷ b ∷ c ∷ []) h = absurd (omega arith)
many_words (a ∷ b ∷ c ∷ d ∷ ws) h = (refl, refl)

-- the form of a line by its first word
pub spot_words : (word : List ℕ) (ws : List (List ℕ)) → bytes_eq word (codes "spot") ≡ true → line_form (word ∷ ws) ≡ spot_line ws
spot_words word ws spot = rw spot refl

pub match_words : (word : List ℕ) (ws : List (List ℕ)) → bytes_eq word (codes "spot") ≡ false → bytes_eq word (codes "match") ≡ true → line_form (word ∷ ws) ≡ match_line ws
match_words word ws spot is = rw (spot, is) refl

pub style_words : (word : List ℕ) (ws : List (List ℕ)) → bytes_eq word (codes "spot") ≡ false → bytes_eq word (codes "match") ≡ false → bytes_eq word (codes "style") ≡ true
    → line_form (word ∷ ws) ≡ style_line ws
style_words word ws spot other is = rw (spot, other, is) refl

-- ---- the lines that have words

abbrev pub words_from : ℕ → List (List ℕ) → List WordLine
words_from n lines = filter (λ l. nat_lt 0 (length l.words)) (map (λ e. record { number = e.0; words = words_of e.1 }) (enumerate_from n lines))

-- what the lines from one on mean, by whether it has words
lines_if : (t : Tables) (b : Bool) (n : ℕ) (words : List (List ℕ)) (more : List WordLine) (m : Machine) → nat_lt 0 (length words) ≡ b
    → after_lines t (cond (nat_lt 0 (length words)) (record { number = n; words = words } ∷ more) more) m ≡ (at_line n (after_words t m words) >>= λ new. after_lines t more new)
lines_if t true n words more m h =
    ap (λ b. after_lines t (cond b (record { number = n; words = words } ∷ more) more) m) h
    ∙ ap (λ b. at_line n (cond b (after_line t m (line_form words)) (Ok m)) >>= λ new. after_lines t more new) (sym h)
lines_if t false n words more m h =
    ap (λ b. after_lines t (cond b (record { number = n; words = words } ∷ more) more) m) h
    ∙ ap (λ b. at_line n (cond b (after_line t m (line_form words)) (Ok m)) >>= λ new. after_lines t more new) (sym h)

line_first : (t : Tables) (n : ℕ) (line : List ℕ) {lines more : List (List ℕ)} (words : List (List ℕ)) (m : Machine) → lines ≡ line ∷ more → words ≡ words_of line
    → after_lines t (words_from n lines) m ≡ (at_line n (after_words t m words) >>= λ new. after_lines t (words_from (n + 1) more) new)
line_first t n line {more = more} words m left is =
    ap (λ ls. after_lines t (words_from n ls) m) left
    ∙ lines_if t (nat_lt 0 (length (words_of line))) n (words_of line) (words_from (n + 1) more) m refl
    ∙ ap (λ ws. at_line n (after_words t m ws) >>= λ new. after_lines t (words_from (n + 1) more) new) (sym is)

pub goes_on : (t : Tables) (n : ℕ) (line : List ℕ) {lines more : List (List ℕ)} (words : List (List ℕ)) (m new : Machine) → lines ≡ line ∷ more → words ≡ words_of line → after_words t m words ≡ Ok new
    → after_lines t (words_from n lines) m ≡ after_lines t (words_from (n + 1) more) new
goes_on t n line {more = more} words m new left is h = line_first t n line words m left is ∙ ap (λ r. at_line n r >>= λ new. after_lines t (words_from (n + 1) more) new) h

pub stops : (t : Tables) (n : ℕ) (line : List ℕ) {lines more : List (List ℕ)} (words : List (List ℕ)) (m : Machine) (code : ℕ) → lines ≡ line ∷ more → words ≡ words_of line → after_words t m words ≡ Err code
    → after_lines t (words_from n lines) m ≡ Err (n, code)
stops t n line {more = more} words m code left is h = line_first t n line words m left is ∙ ap (λ r. at_line n r >>= λ new. after_lines t (words_from (n + 1) more) new) h

-- what the lines of a text mean is what the text means, where each byte is allowed
pub whole : (t : Tables) (text : List ℕ) (r : Result Machine MachineStop) → bad_line text ≡ None → Gives (after_lines t (word_lines text) (no_machine t)) r → Gives (machine_of t text) r
unfolding machine_of
whole t text (Ok m) e h = ap (λ o. option_map_or (λ line. Err (line, BAD_LINE)) o (Ok (word_lines text)) >>= λ ws. after_lines t ws (no_machine t)) e ∙ h
whole t text (Err (Fault line code)) e h = ap (λ o. option_map_or (λ line. Err (line, BAD_LINE)) o (Ok (word_lines text)) >>= λ ws. after_lines t ws (no_machine t)) e ∙ h
whole t text (Err Memory) e h = tt

pub faulty : (t : Tables) (text : List ℕ) (line : ℕ) → bad_line text ≡ Some line → machine_of t text ≡ Err (line, BAD_LINE)
unfolding machine_of
faulty t text line e = ap (λ o. option_map_or (λ line. Err (line, BAD_LINE)) o (Ok (word_lines text)) >>= λ ws. after_lines t ws (no_machine t)) e

-- a machine that is what the text means fits the tables
pub fitting : (t : Tables) (text : List ℕ) (r : Result Machine MachineStop) → Gives (machine_of t text) r → IfOk r (FittingMachine t)
fitting t text (Ok m) h = machine_fits t text m h
fitting t text (Err stop) h = tt
