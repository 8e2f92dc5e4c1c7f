-- What the cut of a text gives meets the condition of `statement`: every span lies within the text.
use Rattle.std.proofs.Common.{◌≡◌, ℕ, ◌+◌, ◌≤◌, Bool, true, false, cond, List, [], ◌∷◌, ◌++◌, length, refl, ap, arith, length-append}
use Rattle.std.specs.Prelude.{All, ◌==◌}
use Rattle.std.specs.List.{AllZip, onto_first}
use Rattle.std.proofs.lemmas.List.Elements.{All-append, All-cons, All-head, All-nil, All-tail}
use Rattle.cf_types.specs.declared.stmt.Token.{Token}
use Rattle.cf_types.specs.Lines.{lines_of}
use Rattle.config_rules.specs.Cut.{Part, Space, Comment, Quoted, Chunk, Mark, Cut, LineCut, is_over, is_stop, line_tokens, lines_tokens, part_tokens, spelling, spellings, statements, stop_behind}
use Rattle.cf_grammar.specs.Statement.{AreWithin}

-- a token ends at this place or before it
abbrev EndsBy : ℕ → Token → Type 0
EndsBy end t = (t.start ≤ t.end) × (t.end ≤ end)

part_ends : (line at end : ℕ) (p : Part) → at + length (spelling p) ≤ end → All (EndsBy end) (part_tokens line at p)
part_ends line at end (Space c) h = All-nil (EndsBy end)
part_ends line at end (Comment bytes) h = All-nil (EndsBy end)
part_ends line at end (Quoted bytes) h = All-cons (EndsBy end) _ [] (omega arith, omega (arith, length-append bytes (34 ∷ []))) (All-nil (EndsBy end))
part_ends line at end (Chunk bytes) h = All-cons (EndsBy end) _ [] (omega arith, h) (All-nil (EndsBy end))
part_ends line at end (Mark bytes) h = All-cons (EndsBy end) _ [] (omega arith, h) (All-nil (EndsBy end))

line_ends : (line at end : ℕ) (parts : List Part) → at + length (spellings parts) ≤ end → All (EndsBy end) (line_tokens line at parts)
line_ends line at end [] h = All-nil (EndsBy end)
line_ends line at end (p ∷ parts) h =
    All-append (EndsBy end) (part_tokens line at p) (line_tokens line (at + length (spelling p)) parts)
    (part_ends line at end p (omega (arith, length-append (spelling p) (spellings parts))))
    (line_ends line (at + length (spelling p)) end parts (omega (arith, length-append (spelling p) (spellings parts))))

stop_ends : (end : ℕ) (ts : List Token) → All (EndsBy end) ts → All (EndsBy end) (stop_behind ts)
stop_ends end [] h = All-nil (EndsBy end)
stop_ends end (t ∷ []) h = All-cons (EndsBy end) _ [] (omega arith, (All-head (EndsBy end) t [] h).1) (All-nil (EndsBy end))
stop_ends end (t ∷ u ∷ ts) h = stop_ends end (u ∷ ts) (All-tail (EndsBy end) t (u ∷ ts) h)

-- how much these lines take, with their ends
abbrev width : List (List ℕ) → ℕ
width [] = 0
width (line ∷ lines) = length line + 1 + width lines

abbrev spelled : List (List Part) → ℕ
spelled [] = 0
spelled (line ∷ lines) = length (spellings line) + 1 + spelled lines

lines_end : (n at end : ℕ) (lines : List (List Part)) → at + spelled lines ≤ end + 1 → All (EndsBy end) (lines_tokens n at lines)
lines_end n at end [] h = All-nil (EndsBy end)
lines_end n at end (line ∷ lines) h =
    let here = line_ends n at end line (omega arith) in
    All-append (EndsBy end) (line_tokens n at line ++ cond (is_over lines) (stop_behind (line_tokens n at line)) []) (lines_tokens (n + 1) (at + length (spellings line) + 1) lines)
    (All-append (EndsBy end) (line_tokens n at line) (cond (is_over lines) (stop_behind (line_tokens n at line)) []) here (perhaps (is_over lines) (stop_ends end (line_tokens n at line) here)))
    (lines_end (n + 1) (at + length (spellings line) + 1) end lines (omega arith))
  where
    perhaps : (b : Bool) → All (EndsBy end) (stop_behind (line_tokens n at line)) → All (EndsBy end) (cond b (stop_behind (line_tokens n at line)) [])
    perhaps true k = k
    perhaps false k = All-nil (EndsBy end)

width-onto_first : (c : ℕ) (lines : List (List ℕ)) (n : ℕ) → width lines ≡ n + 1 → width (onto_first c lines) ≡ n + 1 + 1
width-onto_first c [] n h = absurd (omega arith)
width-onto_first c (line ∷ lines) n h = omega arith

width-lines_of : (text : List ℕ) → width (lines_of text) ≡ length text + 1
width-lines_of [] = refl
width-lines_of (c ∷ cs) = by_byte (c == 10) (width-lines_of cs)
  where
    by_byte : (b : Bool) → width (lines_of cs) ≡ length cs + 1 → width (cond b ([] ∷ lines_of cs) (onto_first c (lines_of cs))) ≡ length (c ∷ cs) + 1
    by_byte true e = omega arith
    by_byte false e = let k = width-onto_first c (lines_of cs) (length cs) e in omega arith

spelled-lines : (lines : List (List ℕ)) (parts : List (List Part)) → AllZip LineCut lines parts → spelled parts ≡ width lines
spelled-lines [] [] h = refl
spelled-lines [] (p ∷ parts) h = absurd h
spelled-lines (line ∷ lines) [] h = absurd h
spelled-lines (line ∷ lines) (p ∷ parts) h = omega (arith, ap length h.0.0, spelled-lines lines parts h.1)

-- the tokens of a text lie within it
pub within_cut : (text : List ℕ) (tokens : List Token) → Cut text tokens → AreWithin text tokens
within_cut text tokens c =
    let all = lines_end 1 0 (length text) c.parts (omega (arith, spelled-lines (lines_of text) c.parts c.lines, width-lines_of text)) in
    rw c.shown all

onto_within : (P : Token → Type 0) (t : Token) (ss : List (List Token)) → P t → All (λ s. All P s) ss → All (λ s. All P s) (onto_first t ss)
onto_within P t [] h k = All-cons (λ s. All P s) (t ∷ []) [] (All-cons P t [] h (All-nil P)) (All-nil (λ s. All P s))
onto_within P t (s ∷ ss) h k = All-cons (λ s. All P s) (t ∷ s) ss (All-cons P t s h (All-head (λ s. All P s) s ss k)) (All-tail (λ s. All P s) s ss k)

-- what holds of all tokens holds of those of each statement
pub statements_within : (P : Token → Type 0) (ts : List Token) → All P ts → All (λ s. All P s) (statements ts)
statements_within P [] h = All-nil (λ s. All P s)
statements_within P (t ∷ ts) h = by_kind (is_stop t) (statements_within P ts (All-tail P t ts h))
  where
    by_kind : (b : Bool) → All (λ s. All P s) (statements ts) → All (λ s. All P s) (cond b ([] ∷ statements ts) (onto_first t (statements ts)))
    by_kind true k = All-cons (λ s. All P s) [] (statements ts) (All-nil P) k
    by_kind false k = onto_within P t (statements ts) (All-head P t ts h) k
