use Rattle.std.proofs.Common.{◌∙◌, map, rules, tests}
use Rattle.std.specs.Prelude.{is_some}
use Rattle.std.proofs.lemmas.Iterator.{YieldsList-from_slice}
use Rattle.std.proofs.lemmas.Iterator.Search.{all_from_yields_List}
use Rattle.config_rules.specs.Form.{name_of}
use Rattle.cf_words.specs.Words.{piece_of}
use Rattle.cf_words.proofs.ListLemmas.{is_some-each, list_all-map}
use Rattle.cf_grammar.proofs.checked.are_names.Goals as goal

pub returns : goal.returns
returns c =
    all_from_yields_List (λ word. is_some (name_of (piece_of word))) _ _ c.all.result c.all.ensures.ran (YieldsList-from_slice c.args.words.now cc) (λ x b q k. search (rules, tests))
    ∙ list_all-map (λ p. is_some (name_of p)) piece_of c.args.words.now ∙ is_some-each name_of (map piece_of c.args.words.now)
