use Rattle.std.proofs.Common.{◌∙◌, ◌≢◌, map, length, sym, arith, rules, tests}
use Rattle.std.proofs.lemmas.Bool.{eqb-false}
use Rattle.std.proofs.lemmas.Iterator.{YieldsList-from_slice}
use Rattle.std.proofs.lemmas.Iterator.Search.{all_from_yields_List}
use Rattle.std.proofs.lemmas.List.{length-map}
use Rattle.config_rules.specs.Form.{is_chunk}
use Rattle.cf_words.specs.Words.{piece_of}
use Rattle.cf_words.proofs.ListLemmas.{list_all-map}
use Rattle.cf_grammar.proofs.CheckedLemmas.{some_chunks}
use Rattle.cf_grammar.proofs.checked.are_chunks.Goals as goal

pub returns-then-not-is_empty : goal.returns-then-not-is_empty
returns-then-not-is_empty c =
    let some : length c.args.words.now ≢ 0 = eqb-false (length c.args.words.now) 0 (sym c.if-not-is_empty.ensures) in
    all_from_yields_List (λ word. is_chunk (piece_of word)) _ _ c.all.result c.all.ensures.ran (YieldsList-from_slice c.args.words.now cc) (λ x b q k. search (rules, tests))
    ∙ list_all-map is_chunk piece_of c.args.words.now ∙ some_chunks (map piece_of c.args.words.now) (omega (arith, length-map c.args.words.now piece_of))
