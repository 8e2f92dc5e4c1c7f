use Rattle.std.proofs.Common.{map, arith}
use borrow.Author.Tests.{ltb-true, ltb-false}
use Rattle.std.proofs.lemmas.List.{length-map}
use Rattle.cf_words.specs.Words.{piece_of}
use Rattle.cf_grammar.proofs.NegationLemmas.{at_place_other}
use Rattle.cf_grammar.proofs.negation.at_place.Goals as goal
use Rattle.cf_grammar.proofs.negation.at_place.Goals.{in_default-via-then-words-lt2, in_default-via-else-words-lt2+else-words-lt3}

pub returns-in_default : goal.returns-in_default
returns-in_default c =
    elim c.in_default.branch [
      | in_default-via-then-words-lt2 w ↦ at_place_other c.args.sized (map piece_of c.args.words.now) (λ e. omega (arith, ltb-true, ltb-false, length-map c.args.words.now piece_of))
      | in_default-via-else-words-lt2+else-words-lt3 w ↦ at_place_other c.args.sized (map piece_of c.args.words.now) (λ e. omega (arith, ltb-true, ltb-false, length-map c.args.words.now piece_of))
    ]
