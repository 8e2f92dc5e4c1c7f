-- The statements of a text, one by one.
use Rattle.std.specs.Prelude.{◌≡◌, ◌<◌, ℕ, List, ◌∷◌, Option, find, length}
use Rattle.std.specs.List.{before_first, after_first}
use Rattle.cf_types.specs.declared.keyword.TheConstants.{CONDITION_WORDS}
use Rattle.cf_types.specs.declared.stmt.CondWord.{CondWord}
use Rattle.cf_types.specs.declared.stmt.Piece.{Piece}
use Rattle.cf_types.specs.declared.stmt.Token.{Token}
use Rattle.config_rules.specs.Cut.{is_stop, pieces, statements}
use Rattle.config_rules.specs.Form.{condition_spelling, is_word}
use Rattle.config_rules.specs.Reading.{Statement, line_at}

-- the statement of these tokens
abbrev pub statement_of : List ℕ → List Token → Statement
statement_of text tokens = record { line = line_at tokens; pieces = pieces text tokens }

-- the condition word that a token is
abbrev pub condition_in : Piece → Option CondWord
condition_in p = find (λ condition. is_word (condition_spelling condition) p) CONDITION_WORDS

-- the first statement of some tokens, and the tokens behind its stop
pub record Parts (tokens statement rest : List Token) : Type 0 where
  pub splits : statements tokens ≡ statement ∷ statements rest
  pub front : statement ≡ before_first is_stop tokens
  pub behind : rest ≡ after_first is_stop tokens
  pub shorter : length rest < length tokens
