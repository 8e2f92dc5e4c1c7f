use Rattle.std.proofs.Common.{◌∙◌, ap, sym, map, arith, codes}
use Rattle.std.proofs.lemmas.List.{drop-map, length-drop, length-map}
use Rattle.std.specs.List.{before_first}
use Rattle.std.specs.Prelude.{length}
use Rattle.config_rules.specs.Form.{is_mark}
use Rattle.cf_words.specs.Words.{piece_of}
use Rattle.cf_words.proofs.ListLemmas.{from_second}
use Rattle.cf_words.proofs.MarkLemmas.{part_alone, part_before}
use Rattle.cf_words.proofs.word.first_part.Goals as goal

pub returns-in-empty-clause-parts : goal.returns-in-empty-clause-parts
returns-in-empty-clause-parts c =
    part_alone (codes ",") (map piece_of c.args.words.now) _ _ c.split_before.ensures.before c.split_before.ensures.from (omega (arith, length-map c.split_before.result.1.now piece_of))

pub returns-in-len1-up-clause-parts : goal.returns-in-len1-up-clause-parts
returns-in-len1-up-clause-parts c =
    part_before (codes ",") (map piece_of c.args.words.now) _ _ _ c.split_before.ensures.before c.split_before.ensures.from (omega (arith, length-map c.split_before.result.1.now piece_of))
    (ap (map piece_of) (from_second c.split_before.result.1.now) ∙ sym (drop-map piece_of 1 c.split_before.result.1.now))

pub returns-in-len1-up-clause-shorter : goal.returns-in-len1-up-clause-shorter
returns-in-len1-up-clause-shorter c =
    let from = c.split_before.result.1.now in
    let ps = map piece_of c.args.words.now in
    omega (arith, length-map from piece_of, length-map c.args.words.now piece_of, ap length c.split_before.ensures.from, length-drop (length (before_first (is_mark (codes ",")) ps)) ps, ap length (from_second from), length-drop 1 from)
