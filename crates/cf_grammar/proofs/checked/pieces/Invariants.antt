use Rattle.std.proofs.Common.{◌≡◌, map, take}
use Rattle.cf_words.specs.Words.{piece_of}
use Rattle.cf_grammar.proofs.checked.pieces.Given as goal

abbrev pub invariant-loop-word : goal.invariant-loop-word
invariant-loop-word l = l.pieces ≡ map piece_of (take l.word-index l.words)
