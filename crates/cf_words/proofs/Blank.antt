-- The word that a read past the end of a slice is said to give.
use Rattle.std.proofs.Common.{[]}
use Rattle.cf_types.specs.declared.stmt.TokenKind.TheVariants.{Chunk}
use Rattle.cf_words.specs.declared.word.Word.{Word}

abbrev pub blank : Word
blank = record { kind = Chunk; text = record { ref_ptr = (0, 0); now = [] } }
