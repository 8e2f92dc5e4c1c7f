use Rattle.std.proofs.Common.{◌∙◌, ap, sym, map, arith}
use Rattle.std.proofs.lemmas.List.{drop-map, length-map}
use Rattle.cf_words.specs.Words.{piece_of}
use Rattle.cf_words.proofs.ListLemmas.{empty_drop, from_second}
use Rattle.cf_words.proofs.MarkLemmas.{after_first_is}
use Rattle.cf_words.proofs.word.behind_first.Goals as goal

pub returns-in-len1-up : goal.returns-in-len1-up
returns-in-len1-up c =
    ap (map piece_of) (from_second c.split_before.result.1.now) ∙ sym (drop-map piece_of 1 c.split_before.result.1.now)
    ∙ after_first_is c.args.mark.now (map piece_of c.args.words.now) (map piece_of c.split_before.result.1.now) c.split_before.ensures.from

pub returns-in-empty : goal.returns-in-empty
returns-in-empty c =
    let from = c.split_before.result.1.now in
    empty_drop (map piece_of from) (omega (arith, length-map from piece_of)) ∙ after_first_is c.args.mark.now (map piece_of c.args.words.now) (map piece_of from) c.split_before.ensures.from
