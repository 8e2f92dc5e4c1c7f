use Rattle.std.proofs.Common.{◌∙◌, ap, sym, map, arith}
use Rattle.std.proofs.lemmas.List.{drop-map, length-map}
use Rattle.cf_words.specs.Words.{piece_of}
use Rattle.cf_words.proofs.ListLemmas.{from_second}
use Rattle.cf_words.proofs.MarkLemmas.{parted_none, parted_some}
use Rattle.cf_words.proofs.word.parted_at.Goals as goal

pub returns-in-empty : goal.returns-in-empty
returns-in-empty c = parted_none c.args.mark.now (map piece_of c.args.words.now) _ c.split_before.ensures.from (omega (arith, length-map c.split_before.result.1.now piece_of))

pub returns-in-len1-up : goal.returns-in-len1-up
returns-in-len1-up c =
    parted_some c.args.mark.now (map piece_of c.args.words.now) _ _ _ c.split_before.ensures.before c.split_before.ensures.from (omega (arith, length-map c.split_before.result.1.now piece_of))
    (ap (map piece_of) (from_second c.split_before.result.1.now) ∙ sym (drop-map piece_of 1 c.split_before.result.1.now))
