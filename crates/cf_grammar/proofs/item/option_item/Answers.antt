use Rattle.std.proofs.Common.{◌≡◌, length, map, arith}
use borrow.Author.Tests.{ltb-true, ltb-false}
use Rattle.std.proofs.lemmas.List.{length-map}
use Rattle.cf_words.specs.Words.{piece_of}
use Rattle.cf_grammar.proofs.ItemLemmas.{option_item_other}
use Rattle.cf_grammar.proofs.item.option_item.Goals as goal
use Rattle.cf_grammar.proofs.item.option_item.Goals.{in_default-via-then-words-lt1, in_default-via-else-words-lt1+else-words-lt2+then-words-lt3, in_default-via-else-words-lt1+else-words-lt2+else-words-lt3+else-words-lt4}

pub returns-in_default : goal.returns-in_default
returns-in_default c =
    let len : length (map piece_of c.args.words.now) ≡ length c.args.words.now = length-map c.args.words.now piece_of in
    elim c.in_default.branch [
      | in_default-via-then-words-lt1 w ↦ option_item_other (map piece_of c.args.words.now) (λ e. omega (arith, ltb-true, ltb-false)) (λ e. omega (arith, ltb-true, ltb-false))
      | in_default-via-else-words-lt1+else-words-lt2+then-words-lt3 w ↦ option_item_other (map piece_of c.args.words.now) (λ e. omega (arith, ltb-true, ltb-false)) (λ e. omega (arith, ltb-true, ltb-false))
      | in_default-via-else-words-lt1+else-words-lt2+else-words-lt3+else-words-lt4 w ↦ option_item_other (map piece_of c.args.words.now) (λ e. omega (arith, ltb-true, ltb-false)) (λ e. omega (arith, ltb-true, ltb-false))
    ]
