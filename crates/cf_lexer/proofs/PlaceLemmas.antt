-- The line of a text that is left from a place on.
use Rattle.std.proofs.Common.{◌≡◌, ℕ, zero, suc, ◌+◌, ◌-◌, ◌<◌, ◌≤◌, Bool, true, false, cond, Option, Some, None, Result, List, [], ◌∷◌, length, get_or, take, drop, ◌++◌, refl, ap, sym, ◌∙◌, subst, arith, Ok, Err, length-drop}
use Rattle.std.specs.Prelude.{◌==◌, IfSome}
use Rattle.std.specs.List.{onto_first, prefix_len}
use Rattle.std.proofs.lemmas.Bool.{eqb-true, false_from_ne_true}
use Rattle.std.proofs.lemmas.List.{take_all, drop_more, drop-drop}
use Rattle.cf_types.specs.declared.stmt.Token.{Token}
use Rattle.cf_types.specs.Lines.{lines_of}
use Rattle.config_rules.specs.Cut.{parts_of, stop_behind}
use Rattle.cf_lexer.specs.Line.{GoesOn, Leaves, PartGoes, with_line}
use Rattle.cf_lexer.specs.Lines.{begins, first_of, rest_of, head_line, lines_behind, lines_from}
use Rattle.cf_lexer.specs.declared.line.LexStop.{LexStop}
use Rattle.cf_lexer.specs.declared.line.LexStop.TheVariants.{Fault, Memory}
use Rattle.cf_lexer.proofs.LineLemmas.{line_ends}
use Rattle.cf_lexer.proofs.TextWords.{finish, total}
use Rattle.cf_lexer.proofs.TextLemmas.{lines_some, text_goes_on, total_lines}

-- a byte of some kind of which a newline is none
pub no_newline : (P : ℕ → Bool) (c : ℕ) → P 10 ≡ false → P c ≡ true → (c == 10) ≡ false
no_newline P c differs h = false_from_ne_true (c == 10) (λ e. let same : P c ≡ P 10 = ap P (eqb-true c 10 e) in cc)

some_lines : (lines : List (List ℕ)) → 1 ≤ length lines → lines ≡ head_line lines ∷ lines_behind lines
some_lines [] h = absurd (omega arith)
some_lines (line ∷ lines) h = refl

-- the lines of a text are its first one and those behind it
pub first_and_rest : (text : List ℕ) → lines_of text ≡ first_of text ∷ rest_of text
first_and_rest text = some_lines (lines_of text) (lines_some text)

byte_lines : (c : ℕ) (b : Bool) (lines : List (List ℕ)) → 1 ≤ length lines → b ≡ false → cond b ([] ∷ lines) (onto_first c lines) ≡ (c ∷ head_line lines) ∷ lines_behind lines
byte_lines c true lines h e = absurd (cc)
byte_lines c false [] h e = absurd (omega arith)
byte_lines c false (line ∷ lines) h e = refl

-- a byte that is no newline stands at the front of the first line
pub before_line : (c : ℕ) (text : List ℕ) → (c == 10) ≡ false → lines_of (c ∷ text) ≡ (c ∷ first_of text) ∷ rest_of text
before_line c text h = byte_lines c (c == 10) (lines_of text) (lines_some text) h

-- what stands behind bytes of the first line
pub lines_drop : (text : List ℕ) (n : ℕ) → n ≤ length (first_of text) → lines_of (drop n text) ≡ drop n (first_of text) ∷ rest_of text
lines_drop text zero h = first_and_rest text
lines_drop [] (suc n) h = absurd (omega arith)
lines_drop (c ∷ text) (suc n) h = by_byte (c == 10) refl (lines_drop text n) h
  where
    by_byte : (b : Bool) → (c == 10) ≡ b → (n ≤ length (first_of text) → lines_of (drop n text) ≡ drop n (first_of text) ∷ rest_of text) → suc n ≤ length (first_of (c ∷ text)) → lines_of (drop n text) ≡ drop (suc n) (first_of (c ∷ text)) ∷ rest_of (c ∷ text)
    by_byte true e so h =
        let none : first_of (c ∷ text) ≡ [] = ap (λ b. head_line (cond b ([] ∷ lines_of text) (onto_first c (lines_of text)))) e in
        absurd (omega (arith, ap length none))
    by_byte false e so h =
        let whole : lines_of (c ∷ text) ≡ (c ∷ first_of text) ∷ rest_of text = before_line c text e in
        so (omega (arith, ap (λ lines. length (head_line lines)) whole))
        ∙ sym (ap (λ lines. drop (suc n) (head_line lines) ∷ lines_behind lines) whole)

pub first_shorter : (text : List ℕ) → length (first_of text) ≤ length text
first_shorter text = omega (arith, ap total (first_and_rest text), total_lines text)

-- a run of bytes that goes over no newline is that of the first line
pub run_in_line : (p : ℕ → Bool) (text : List ℕ) → p 10 ≡ false → prefix_len p (first_of text) ≡ prefix_len p text
run_in_line p [] h = refl
run_in_line p (c ∷ text) h = by_byte (c == 10) refl (run_in_line p text h)
  where
    by_byte : (b : Bool) → (c == 10) ≡ b → prefix_len p (first_of text) ≡ prefix_len p text → prefix_len p (first_of (c ∷ text)) ≡ prefix_len p (c ∷ text)
    by_byte true e so =
        let none : first_of (c ∷ text) ≡ [] = ap (λ b. head_line (cond b ([] ∷ lines_of text) (onto_first c (lines_of text)))) e in
        let no : p c ≡ false = ap p (eqb-true c 10 e) ∙ h in
        ap (prefix_len p) none ∙ sym (ap (λ b. cond b (1 + prefix_len p text) 0) no)
    by_byte false e so =
        ap (λ lines. prefix_len p (head_line lines)) (before_line c text e)
        ∙ ap (λ n. cond (p c) (1 + n) 0) so

-- the byte at a place, and what stands behind it
pub at_here : (text : List ℕ) (place d : ℕ) → place < length text → drop place text ≡ get_or text place d ∷ take (length text - (place + 1)) (drop (place + 1) text)
at_here text place d lt =
    drop_more text place d lt
    ∙ ap (λ cs. get_or text place d ∷ cs) (sym (take_all (length text - (place + 1)) (drop (place + 1) text) (omega (arith, length-drop (place + 1) text))))

-- what a part that was taken leaves of a line
pub record Further (before after : List Token) (line place len : ℕ) (text : List ℕ) : Type 0 where
  pub within : place + len ≤ length text
  pub so_far : with_line after line (place + len) (parts_of (first_of (drop (place + len) text))) ≡ with_line before line place (parts_of (first_of (drop place text)))
  pub behind : rest_of (drop (place + len) text) ≡ rest_of (drop place text)

pub goes_further : (before after : List Token) (line place len first : ℕ) (text more : List ℕ) → place < length text → drop place text ≡ first ∷ more → (first == 10) ≡ false
    → GoesOn before line place (first ∷ first_of more) (Ok len) after → Further before after line place len text
goes_further before after line place len first text more lt is differs goes =
    let whole : lines_of (drop place text) ≡ (first ∷ first_of more) ∷ rest_of more = ap lines_of is ∙ before_line first more differs in
    let line_is : first_of (drop place text) ≡ first ∷ first_of more = ap head_line whole in
    let fits : len ≤ length (first_of (drop place text)) = omega (arith, goes.1, ap length line_is) in
    let left : lines_of (drop (place + len) text) ≡ drop len (first_of (drop place text)) ∷ rest_of (drop place text) =
    ap lines_of (sym (drop-drop len place text)) ∙ lines_drop (drop place text) len fits in
    record {
      within = omega (arith, fits, first_shorter (drop place text), length-drop place text);
      so_far =
          ap (λ lines. with_line after line (place + len) (parts_of (head_line lines))) left
          ∙ ap (λ l. with_line after line (place + len) (parts_of (drop len l))) line_is
          ∙ goes.2
          ∙ sym (ap (λ l. with_line before line place (parts_of l)) line_is);
      behind = ap lines_behind left;
    }

-- the same by the place that was reached
pub record Reached (before after : List Token) (line place next : ℕ) (text : List ℕ) : Type 0 where
  pub further : place < next
  pub within : next ≤ length text
  pub so_far : with_line after line next (parts_of (first_of (drop next text))) ≡ with_line before line place (parts_of (first_of (drop place text)))
  pub behind : rest_of (drop next text) ≡ rest_of (drop place text)

pub part_reached : (before after : List Token) (line place next first : ℕ) (text more : List ℕ) → place < length text → drop place text ≡ first ∷ more
    → PartGoes before line place first more (Ok (Some next)) after → Reached before after line place next text
part_reached before after line place next first text more lt is (len, there, goes, differs) =
    let f : Further before after line place len text = goes_further before after line place len first text more lt is differs goes in
    subst (λ (end : ℕ). Reached before after line place end text) (sym there)
    (record { further = omega (arith, goes.0); within = f.within; so_far = f.so_far; behind = f.behind })

pub part_is : (before after : List Token) (line place first : ℕ) (more : List ℕ) (o p : Option ℕ) → o ≡ p → PartGoes before line place first more (Ok o) after → PartGoes before line place first more (Ok p) after
part_is before after line place first more o p is goes = let Q : Option ℕ → Type 0 = λ q. PartGoes before line place first more (Ok q) after in subst Q is goes

-- a line in which no part begins at this place
pub stops_here : (before after : List Token) (line place first : ℕ) (text more : List ℕ) (whole : Result (List Token) ℕ) (stop : LexStop) → drop place text ≡ first ∷ more → (first == 10) ≡ false
    → GoesOn before line place (first ∷ first_of more) (Err stop) after → with_line before line place (parts_of (first_of (drop place text))) ≡ whole → Leaves {A = Option ℕ} whole line (Err stop) after
stops_here before after line place first text more whole (Fault l code) is differs goes so_far =
    let line_is : first_of (drop place text) ≡ first ∷ first_of more = ap head_line (ap lines_of is ∙ before_line first more differs) in
    (goes.0, sym so_far ∙ ap (λ l. with_line before line place (parts_of l)) line_is ∙ goes.1)
stops_here before after line place first text more whole Memory is differs goes so_far = tt

-- a line that ends at this place, with a newline or with the text
pub newline_here : (place first : ℕ) (text more : List ℕ) → drop place text ≡ first ∷ more → (first == 10) ≡ true → lines_of (drop place text) ≡ [] ∷ lines_of more
newline_here place first text more is same =
    ap lines_of is ∙ ap (λ b. cond b ([] ∷ lines_of more) (onto_first first (lines_of more))) same

pub line_done : (before : List Token) (line place : ℕ) (text : List ℕ) (whole : Result (List Token) ℕ) → first_of (drop place text) ≡ [] → with_line before line place (parts_of (first_of (drop place text))) ≡ whole → whole ≡ Ok before
line_done before line place text whole none so_far =
    sym so_far ∙ ap (λ l. with_line before line place (parts_of l)) none ∙ line_ends before line place [] (omega arith)

pub text_done : (place : ℕ) (text : List ℕ) → length text ≤ place → lines_of (drop place text) ≡ [] ∷ []
text_done place text h = by_left (drop place text) (length-drop place text)
  where
    by_left : (left : List ℕ) → length left ≡ length text - place → lines_of left ≡ [] ∷ []
    by_left [] e = refl
    by_left (c ∷ left) e = absurd (omega (arith, e, h))

-- where the next line begins, one past the end where there is none
abbrev pub place_of : List ℕ → Option ℕ → ℕ
place_of text None = length text + 1
place_of text (Some place) = place

left_total : (text : List ℕ) (left : Option ℕ) → IfSome left (λ place. place ≤ length text) → total (lines_from text left) + place_of text left ≡ length text + 1
left_total text None h = omega arith
left_total text (Some place) h = omega (arith, total_lines (drop place text), length-drop place text, h)

-- the next line begins behind this one and its newline
pub next_place : (text : List ℕ) (start : ℕ) (left : Option ℕ) → start ≤ length text → IfSome left (λ place. place ≤ length text) → rest_of (drop start text) ≡ lines_from text left
    → place_of text left ≡ start + (length (first_of (drop start text)) + 1)
next_place text start left within most is =
    omega (arith, within, left_total text left most, total_lines (drop start text), length-drop start text, ap total (first_and_rest (drop start text)), ap total is)

pub some_within : (left : Option ℕ) (start n : ℕ) → left ≡ Some start → IfSome left (λ place. place ≤ n) → start ≤ n
some_within left start n is h = let Q : Option ℕ → Type 0 = λ o. IfSome o (λ place. place ≤ n) in subst Q is h

pub next_within : (left : Option ℕ) (start n : ℕ) → IfSome left (λ next. (start < next) × (next ≤ n)) → IfSome left (λ place. place ≤ n)
next_within None start n h = tt
next_within (Some next) start n h = h.1

-- what the lines from a place on are, where one begins there
pub so_far_at : (text : List ℕ) (tokens : List Token) (number start : ℕ) (left : Option ℕ) (whole : Result (List Token) (ℕ × ℕ)) → left ≡ Some start → finish tokens number (place_of text left) (lines_from text left) ≡ whole
    → finish tokens number start (first_of (drop start text) ∷ rest_of (drop start text)) ≡ whole
so_far_at text tokens number start left whole is so_far =
    ap (finish tokens number start) (sym (first_and_rest (drop start text)))
    ∙ sym (ap (λ o. finish tokens number (place_of text o) (lines_from text o)) is)
    ∙ so_far

-- one line more was cut
pub text_further : (text : List ℕ) (before stopped after : List Token) (number start : ℕ) (left : Option ℕ) (whole : Result (List Token) (ℕ × ℕ))
    → start ≤ length text → IfSome left (λ place. place ≤ length text) → rest_of (drop start text) ≡ lines_from text left
    → stopped ≡ cond (begins (first_of (drop start text))) (before ++ stop_behind before) before → with_line stopped number start (parts_of (first_of (drop start text))) ≡ Ok after
    → finish before number start (first_of (drop start text) ∷ rest_of (drop start text)) ≡ whole → finish after (number + 1) (place_of text left) (lines_from text left) ≡ whole
text_further text before stopped after number start left whole within most behind stop cut so_far =
    ap (λ m. finish after (number + 1) m (lines_from text left)) (next_place text start left within most behind)
    ∙ ap (finish after (number + 1) (start + (length (first_of (drop start text)) + 1))) (sym behind)
    ∙ text_goes_on before stopped after number start (first_of (drop start text)) (rest_of (drop start text)) stop cut
    ∙ so_far
