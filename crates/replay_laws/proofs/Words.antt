-- No word of a text has a newline.
use Rattle.std.proofs.Common.{◌≡◌, ℕ, ◌+◌, ◌-◌, ◌≤◌, ◌==◌, ◌⊎◌, inl, inr, Bool, true, false, not, cond, List, [], ◌∷◌, ◌++◌, length, take, drop, map, refl, sym, ap, ◌∙◌, subst, arith, length-append, length-drop, append_assoc, append-nil}
use Rattle.std.specs.Prelude.{All, slice_range}
use Rattle.std.specs.List.{AllZip, onto_first}
use Rattle.std.proofs.lemmas.Bool.{and_parts, eqb-true, not-true}
use Rattle.std.proofs.lemmas.List.{drop-append-le, take-append-drop, take-append-le}
use Rattle.std.proofs.lemmas.List.Elements.{All-append, All-cons, All-head, All-map, All-nil, All-tail, All-weaker}
use Rattle.std.proofs.lemmas.List.Folds.{list_all-append}
use Rattle.std.proofs.lemmas.List.Splits.{slice_split_at, slice_split_none}
use Rattle.std.proofs.Math.Seq.{drop-append-add}
use Rattle.cf_types.specs.declared.stmt.Piece.{Piece}
use Rattle.cf_types.specs.declared.stmt.Token.{Token}
use Rattle.cf_types.specs.Lines.{lines_of}
use Rattle.config_rules.specs.Cut.{Part, Space, Comment, Quoted, Chunk, Mark, Cut, LineCut, is_over, is_stop, line_tokens, lines_tokens, part_tokens, piece, spelling, spellings, statements, stop_behind}
use Rattle.config_rules.specs.Reading.{Statement, line_at, statements_in}
use Rattle.replay_laws.specs.OneLine.{IsOneLine, is_one_line}

-- ---- parts of a line

parts_line : (n : ℕ) (xs : List ℕ) → IsOneLine xs → IsOneLine (take n xs) × IsOneLine (drop n xs)
parts_line n xs h = and_parts (is_one_line (take n xs)) (is_one_line (drop n xs)) (sym (list_all-append (λ c. not (c == 10)) (take n xs) (drop n xs)) ∙ ap is_one_line (take-append-drop n xs) ∙ h)

within : (line rest : List ℕ) (k m : ℕ) → IsOneLine line → k + m ≤ length line → IsOneLine (take m (drop k (line ++ rest)))
within line rest k m one few =
    let front : drop k (line ++ rest) ≡ drop k line ++ rest = drop-append-le k line rest (omega arith) in
    let short : take m (drop k line ++ rest) ≡ take m (drop k line) = take-append-le m (drop k line) rest (omega (arith, length-drop k line)) in
    subst IsOneLine (sym (ap (take m) front ∙ short)) (parts_line m (drop k line) (parts_line k line one).1).0

-- what stands in a line of a text
in_line : (front line rest : List ℕ) (start end : ℕ) → IsOneLine line → length front ≤ start → start ≤ end → end ≤ length front + length line → IsOneLine (slice_range (front ++ (line ++ rest)) start end)
in_line front line rest start end one low on high =
    let there : start ≡ length front + (start - length front) = omega arith in
    let skipped : drop start (front ++ (line ++ rest)) ≡ drop (start - length front) (line ++ rest) =
    ap (λ n. drop n (front ++ (line ++ rest))) there ∙ drop-append-add front (line ++ rest) (start - length front) in
    subst IsOneLine (sym (ap (take (end - start)) skipped)) (within line rest (start - length front) (end - start) one (omega arith))

-- ---- tokens of a line

-- a token in these places
record IsIn (low high : ℕ) (t : Token) : Type 0 where
  from : low ≤ t.start
  on : t.start ≤ t.end
  to : t.end ≤ high

part_in : (n low at high : ℕ) (p : Part) → low ≤ at → at + length (spelling p) ≤ high → All (IsIn low high) (part_tokens n at p)
part_in n low at high (Space c) from to = All-nil (IsIn low high)
part_in n low at high (Comment bytes) from to = All-nil (IsIn low high)
part_in n low at high (Quoted bytes) from to =
    All-cons (IsIn low high) _ [] (record { from = omega arith; on = omega arith; to = omega (arith, length-append bytes (34 ∷ [])) }) (All-nil (IsIn low high))
part_in n low at high (Chunk bytes) from to = All-cons (IsIn low high) _ [] (record { from = from; on = omega arith; to = to }) (All-nil (IsIn low high))
part_in n low at high (Mark bytes) from to = All-cons (IsIn low high) _ [] (record { from = from; on = omega arith; to = to }) (All-nil (IsIn low high))

tokens_in : (n low at high : ℕ) (parts : List Part) → low ≤ at → at + length (spellings parts) ≤ high → All (IsIn low high) (line_tokens n at parts)
tokens_in n low at high [] from to = All-nil (IsIn low high)
tokens_in n low at high (p ∷ parts) from to =
    All-append (IsIn low high) (part_tokens n at p) (line_tokens n (at + length (spelling p)) parts)
    (part_in n low at high p from (omega (arith, length-append (spelling p) (spellings parts))))
    (tokens_in n low (at + length (spelling p)) high parts (omega arith) (omega (arith, length-append (spelling p) (spellings parts))))

stop_in : (low high : ℕ) (ts : List Token) → All (IsIn low high) ts → All (IsIn low high) (stop_behind ts)
stop_in low high [] h = All-nil (IsIn low high)
stop_in low high (t ∷ []) h =
    let last = All-head (IsIn low high) t [] h in
    All-cons (IsIn low high) _ [] (record { from = omega (arith, last.from, last.on); on = omega arith; to = last.to }) (All-nil (IsIn low high))
stop_in low high (t ∷ u ∷ ts) h = stop_in low high (u ∷ ts) (All-tail (IsIn low high) t (u ∷ ts) h)

-- with the stop behind them, if there is one
all_in : (n low high : ℕ) (parts : List Part) (stop : Bool) → low + length (spellings parts) ≤ high → All (IsIn low high) (line_tokens n low parts ++ cond stop (stop_behind (line_tokens n low parts)) [])
all_in n low high parts stop to =
    let here = tokens_in n low low high parts (omega arith) to in
    All-append (IsIn low high) (line_tokens n low parts) (cond stop (stop_behind (line_tokens n low parts)) []) here (perhaps stop (stop_in low high (line_tokens n low parts) here))
  where
    perhaps : (b : Bool) → All (IsIn low high) (stop_behind (line_tokens n low parts)) → All (IsIn low high) (cond b (stop_behind (line_tokens n low parts)) [])
    perhaps true k = k
    perhaps false k = All-nil (IsIn low high)

-- ---- tokens of a text

abbrev HasLine : List ℕ → Token → Type 0
HasLine text t = IsOneLine (slice_range text t.start t.end)

line_has : (n : ℕ) (front line rest : List ℕ) (parts : List Part) (stop : Bool) → IsOneLine line → line ≡ spellings parts
    → All (HasLine (front ++ (line ++ rest))) (line_tokens n (length front) parts ++ cond stop (stop_behind (line_tokens n (length front) parts)) [])
line_has n front line rest parts stop one is =
    All-weaker (IsIn (length front) (length front + length line)) (HasLine (front ++ (line ++ rest))) (λ t h. in_line front line rest t.start t.end one h.from h.on h.to) _
    (all_in n (length front) (length front + length line) parts stop (omega (arith, ap length is)))

-- a text up to its first newline
record FirstLine (text : List ℕ) : Type 0 where
  line : List ℕ
  rest : List ℕ
  one : IsOneLine line
  is : text ≡ line ++ 10 ∷ rest

first_line : (text : List ℕ) → IsOneLine text ⊎ FirstLine text
first_line [] = inl refl
first_line (b ∷ bs) = by (b == 10) refl (first_line bs)
  where
    by : (c : Bool) → (b == 10) ≡ c → IsOneLine bs ⊎ FirstLine bs → IsOneLine (b ∷ bs) ⊎ FirstLine (b ∷ bs)
    by true e later = inr (record { line = []; rest = bs; one = refl; is = ap (λ c. c ∷ bs) (eqb-true b 10 e) })
    by false e (inl one) = inl (rw (e, one) refl)
    by false e (inr f) = inr (record { line = b ∷ f.line; rest = f.rest; one = let more = f.one in rw (e, more) refl; is = ap (λ (xs : List ℕ). b ∷ xs) f.is })

no_newline : (text : List ℕ) → IsOneLine text → All (λ c. (c == 10) ≡ false) text
no_newline [] h = All-nil (λ c. (c == 10) ≡ false)
no_newline (b ∷ bs) h =
    let parts = and_parts (not (b == 10)) (is_one_line bs) h in
    All-cons (λ c. (c == 10) ≡ false) b bs (not-true (b == 10) parts.0) (no_newline bs parts.1)

last_lines : (text : List ℕ) (n at : ℕ) (parts : List (List Part)) → AllZip LineCut [] parts → All (HasLine text) (lines_tokens n at parts)
last_lines text n at [] cut = All-nil (HasLine text)
last_lines text n at (p ∷ parts) cut = absurd cut

-- where it is the last
whole_has : (n : ℕ) (front line : List ℕ) (p : List Part) (parts : List (List Part)) → IsOneLine line → AllZip LineCut (lines_of line) (p ∷ parts) → All (HasLine (front ++ line)) (lines_tokens n (length front) (p ∷ parts))
whole_has n front line p parts one cut =
    let alone = subst (λ (ls : List (List ℕ)). AllZip LineCut ls (p ∷ parts)) (slice_split_none (λ c. c == 10) line (no_newline line one)) cut in
    let same : front ++ (line ++ []) ≡ front ++ line = ap (λ (xs : List ℕ). front ++ xs) (append-nil line) in
    All-append (HasLine (front ++ line)) _ (lines_tokens (n + 1) (length front + length (spellings p) + 1) parts)
    (subst (λ (text : List ℕ). All (HasLine text) (line_tokens n (length front) p ++ cond (is_over parts) (stop_behind (line_tokens n (length front) p)) [])) same (line_has n front line [] p (is_over parts) one alone.0.0))
    (last_lines (front ++ line) (n + 1) (length front + length (spellings p) + 1) parts alone.1)

-- where others follow
line_and_more : (n : ℕ) (front rest : List ℕ) (p : List Part) (parts : List (List Part)) (f : FirstLine rest) → AllZip LineCut (lines_of rest) (p ∷ parts)
    → ((at : List ℕ) → AllZip LineCut (lines_of f.rest) parts → All (HasLine (at ++ f.rest)) (lines_tokens (n + 1) (length at) parts)) → All (HasLine (front ++ rest)) (lines_tokens n (length front) (p ∷ parts))
line_and_more n front rest p parts f cut later =
    let split : lines_of rest ≡ f.line ∷ lines_of f.rest = ap lines_of f.is ∙ slice_split_at (λ c. c == 10) f.line 10 f.rest (no_newline f.line f.one) refl in
    let both = subst (λ (ls : List (List ℕ)). AllZip LineCut ls (p ∷ parts)) split cut in
    let text : front ++ (f.line ++ 10 ∷ f.rest) ≡ front ++ rest = ap (λ (xs : List ℕ). front ++ xs) (sym f.is) in
    let more : (front ++ (f.line ++ 10 ∷ [])) ++ f.rest ≡ front ++ rest =
    append_assoc front (f.line ++ 10 ∷ []) f.rest ∙ ap (λ (xs : List ℕ). front ++ xs) (append_assoc f.line (10 ∷ []) f.rest) ∙ text in
    let at : length (front ++ (f.line ++ 10 ∷ [])) ≡ length front + length (spellings p) + 1 =
    omega (arith, length-append front (f.line ++ 10 ∷ []), length-append f.line (10 ∷ []), ap length both.0.0) in
    All-append (HasLine (front ++ rest)) _ (lines_tokens (n + 1) (length front + length (spellings p) + 1) parts)
    (subst (λ (t : List ℕ). All (HasLine t) (line_tokens n (length front) p ++ cond (is_over parts) (stop_behind (line_tokens n (length front) p)) [])) text
    (line_has n front f.line (10 ∷ f.rest) p (is_over parts) f.one both.0.0))
    (subst (λ (t : List ℕ). All (HasLine t) (lines_tokens (n + 1) (length front + length (spellings p) + 1) parts)) more
    (subst (λ (k : ℕ). All (HasLine ((front ++ (f.line ++ 10 ∷ [])) ++ f.rest)) (lines_tokens (n + 1) k parts)) at (later (front ++ (f.line ++ 10 ∷ [])) both.1)))

lines_have : (n : ℕ) (front rest : List ℕ) (parts : List (List Part)) → AllZip LineCut (lines_of rest) parts → All (HasLine (front ++ rest)) (lines_tokens n (length front) parts)
lines_have n front rest [] cut = All-nil (HasLine (front ++ rest))
lines_have n front rest (p ∷ parts) cut = by (first_line rest) (λ at text k. lines_have (n + 1) at text parts k)
  where
    by : IsOneLine rest ⊎ FirstLine rest → ((at text : List ℕ) → AllZip LineCut (lines_of text) parts → All (HasLine (at ++ text)) (lines_tokens (n + 1) (length at) parts))
        → All (HasLine (front ++ rest)) (lines_tokens n (length front) (p ∷ parts))
    by (inl one) later = whole_has n front rest p parts one cut
    by (inr f) later = line_and_more n front rest p parts f cut (λ at k. later at f.rest k)

text_has : (text : List ℕ) (tokens : List Token) → Cut text tokens → All (HasLine text) tokens
text_has text tokens cut = subst (λ (ts : List Token). All (HasLine text) ts) (sym cut.shown) (lines_have 1 [] text cut.parts cut.lines)

-- ---- pieces of statements

pub onto_all : {X : Type 0} (P : X → Type 0) (x : X) (parts : List (List X)) → P x → All (All P) parts → All (All P) (onto_first x parts)
onto_all P x [] h all = All-cons (All P) (x ∷ []) [] (All-cons P x [] h (All-nil P)) (All-nil (All P))
onto_all P x (part ∷ parts) h all = All-cons (All P) (x ∷ part) parts (All-cons P x part h (All-head (All P) part parts all)) (All-tail (All P) part parts all)

statements_have : (P : Token → Type 0) (ts : List Token) → All P ts → All (All P) (statements ts)
statements_have P [] h = All-nil (All P)
statements_have P (t ∷ ts) h = by (is_stop t) (statements_have P ts (All-tail P t ts h))
  where
    by : (b : Bool) → All (All P) (statements ts) → All (All P) (cond b ([] ∷ statements ts) (onto_first t (statements ts)))
    by true later = All-cons (All P) [] (statements ts) (All-nil P) later
    by false later = onto_all P t (statements ts) (All-head P t ts h) later

abbrev pub HasLineText : Piece → Type 0
HasLineText p = IsOneLine p.text

abbrev pub HasLineTexts : Statement → Type 0
HasLineTexts s = All HasLineText s.pieces

-- each word of each statement of a text is within one line
pub text_words : (text : List ℕ) (tokens : List Token) → Cut text tokens → All HasLineTexts (statements_in text tokens)
text_words text tokens cut =
    All-map HasLineTexts (λ ts. record { line = line_at ts; pieces = map (piece text) ts }) (statements tokens)
    (All-weaker (All (HasLine text)) (λ ts. All HasLineText (map (piece text) ts)) (λ ts. All-map HasLineText (piece text) ts) (statements tokens) (statements_have (HasLine text) tokens (text_has text tokens cut)))
