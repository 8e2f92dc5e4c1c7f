-- What a negation takes back, by its first word.
use Rattle.std.specs.Prelude.{ℕ, Bool, List, ◌∷◌, Option, codes, find, option_and_then}
use Rattle.cf_types.specs.declared.stmt.Piece.{Piece}
use Rattle.cf_types.specs.declared.stmt.Stmt.{Stmt}
use Rattle.cf_types.specs.declared.stmt.TokenKind.TheVariants as kind
use Rattle.config_rules.specs.Form.{is_word, no_inst, no_stmt, unit_chunk}
use Rattle.cf_grammar.specs.declared.negation.Negated.{Negated}
use Rattle.cf_grammar.specs.declared.negation.Negated.TheVariants as word
use Rattle.cf_grammar.specs.declared.negation.TheConstants.{NEGATED}

abbrev pub negated_spelling : Negated → List ℕ
negated_spelling word.Options = codes "options"
negated_spelling word.MakeOptions = codes "makeoptions"
negated_spelling word.FileSystem = codes "file-system"
negated_spelling word.PseudoDevice = codes "pseudo-device"
negated_spelling word.Device = codes "device"

abbrev pub negated_of : Piece → Option Negated
negated_of p = find (λ negated. is_word (negated_spelling negated) p) NEGATED

-- the word as it is written
abbrev pub word_of : Negated → Piece
word_of negated = record { kind = kind.Chunk; text = negated_spelling negated }

-- the statement that `no`, the word and the tokens behind it are
abbrev pub no_by_word : Negated → Bool → List Piece → Option Stmt
no_by_word negated sized ps = no_stmt sized (word_of negated ∷ ps)

-- the statement that takes back an instance
abbrev pub no_by_unit : Bool → Piece → List Piece → Option Stmt
no_by_unit sized unit ps = option_and_then (λ u. no_inst sized u.0 u.1 ps) (unit_chunk sized unit)
