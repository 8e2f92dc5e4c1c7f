-- The tokens of a text from a statement on.
use Rattle.std.specs.Prelude.{◌≡◌, ℕ, ◌+◌, ◌<◌, ◌≤◌, Bool, true, false, IfSome, List, [], ◌∷◌, ◌++◌, All, drop, take, length, find, bytes_eq, Option, Some, None, Result, Ok, Err, ⊤}
use Rattle.std.specs.List.{list_any, prefix_len}
use Rattle.cf_types.specs.declared.keyword.TheConstants.{CONDITION_WORDS}
use Rattle.cf_types.specs.declared.stmt.CondWord.{CondWord}
use Rattle.cf_types.specs.declared.stmt.Piece.{Piece}
use Rattle.cf_types.specs.declared.stmt.Token.{Token}
use Rattle.cf_types.specs.Lines.{lines_of}
use Rattle.config_rules.specs.Cut.{all_parts, is_chunk_byte, is_stop, lines_tokens, piece, statements, ◌>>=◌}
use Rattle.config_rules.specs.Form.{condition_spelling, is_word}
use Rattle.cf_lexer.specs.Lines.{begins, first_of}
use Rattle.cf_lexer.specs.declared.line.LexStop.{LexStop}
use Rattle.cf_lexer.specs.declared.rest.Cutting.{Cutting}
use Rattle.cf_lexer.specs.declared.rest.Rest.{Rest}

-- the tokens of the lines from this number and this place on, or the first fault
abbrev pub tokens_from : List ℕ → ℕ → ℕ → Result (List Token) (ℕ × ℕ)
tokens_from text number place = all_parts number (lines_of (drop place text)) >>= λ parts. Ok (lines_tokens number place parts)

abbrev pub value_or_none : {E : Type 0} → Result (List Token) E → List Token
value_or_none (Ok tokens) = tokens
value_or_none (Err e) = []

-- the tokens of what is not cut yet
abbrev pub rest_tokens : List ℕ → Option Rest → List Token
rest_tokens text None = []
rest_tokens text (Some r) = value_or_none (tokens_from text r.line r.place)

-- the rest begins with a line that begins a statement, and can be cut
pub record IsRest (text : List ℕ) (r : Rest) : Type 0 where
  pub short : length text ≤ 1048576
  pub within : r.place ≤ length text
  pub counted : r.line ≤ r.place + 1
  pub begun : begins (first_of (drop r.place text)) ≡ true
  pub whole : tokens_from text r.line r.place ≡ Ok (rest_tokens text (Some r))

abbrev pub MayRest : List ℕ → Option Rest → Type 0
MayRest text None = ⊤
MayRest text (Some r) = IsRest text r

-- all tokens of a text that was cut up to its rest
abbrev pub all_tokens : List ℕ → Cutting → List Token
all_tokens text c = c.tokens ++ rest_tokens text c.rest

abbrev pub all_result : List ℕ → Result Cutting LexStop → Result (List Token) LexStop
all_result text (Ok c) = Ok (all_tokens text c)
all_result text (Err e) = Err e

-- there is none, or the last of them is a stop
abbrev pub is_closed : List Token → Bool
is_closed [] = true
is_closed (t ∷ []) = is_stop t
is_closed (t ∷ u ∷ us) = is_closed (u ∷ us)

-- the condition word that a token is
abbrev pub condition_in : Piece → Option CondWord
condition_in p = find (λ condition. is_word (condition_spelling condition) p) CONDITION_WORDS

-- the condition word with which the statement of these tokens begins
abbrev pub first_condition : List ℕ → List Token → Option CondWord
first_condition text [] = None
first_condition text (t ∷ ts) = condition_in (piece text t)

-- a condition word
abbrev pub is_condition_word : List ℕ → Bool
is_condition_word chunk = list_any (λ word. bytes_eq chunk (condition_spelling word)) CONDITION_WORDS

-- the chunk with which a line begins is one
abbrev pub names_condition : List ℕ → Bool
names_condition line = is_condition_word (take (prefix_len is_chunk_byte line) line)

-- what stands behind the first statement of the rest, which begins with a condition word only where its line does
pub record IsNext (text : List ℕ) (r : Rest) (next : Option Rest) : Type 0 where
  pub first : List Token
  pub front : List Token
  pub whole : rest_tokens text (Some r) ≡ front ++ rest_tokens text next
  pub splits : statements (rest_tokens text (Some r)) ≡ first ∷ statements (rest_tokens text next)
  pub quiet : names_condition (drop r.place text) ≡ false → first_condition text first ≡ None
  pub goes_on : IfSome next (λ n. r.place < n.place)
  pub rest : MayRest text next

-- statements without a condition word were passed over
pub record Passes (text : List ℕ) (old new : List Token) : Type 0 where
  pub front : List Token
  pub whole : old ≡ front ++ new
  pub passed : List (List Token)
  pub splits : statements old ≡ passed ++ statements new
  pub quiet : All (λ ts. first_condition text ts ≡ None) passed
