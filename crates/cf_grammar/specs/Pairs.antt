-- What an instance gives, and how it begins, as the definition of the grammar has it.
use Rattle.std.specs.Prelude.{List, ◌∷◌, ℤ}
use Rattle.cf_types.specs.declared.stmt.GivenLoc.{GivenLoc}
use Rattle.cf_types.specs.declared.stmt.Piece.{Piece}
use Rattle.cf_words.specs.Words.{piece_of}
use Rattle.cf_grammar.specs.declared.instance.Opening.{Opening}
use Rattle.cf_grammar.specs.declared.instance.Pairs.{Pairs}

abbrev pub parts_of : Pairs → List GivenLoc × ℤ
parts_of p = (p.pairs, p.flags)

-- the words with which it begins, before these
abbrev pub opened_by : Opening → List Piece → List Piece
opened_by o pieces = piece_of o.unit ∷ piece_of o.at ∷ piece_of o.place ∷ pieces
