use Rattle.std.proofs.Common.{◌∙◌, sym}
use Rattle.cf_words.specs.Words.{piece_of}
use Rattle.cf_grammar.proofs.KeywordLemmas.{one_looks, short_no}
use Rattle.cf_grammar.proofs.keyword.keyword_of.Goals as goal

pub returns-in_default : goal.returns-in_default
returns-in_default c = c.if_spelled.ensures ∙ short_no (piece_of c.args.word) c.in_default.len_below

pub returns-in_ok-keyword-in-len3-up : goal.returns-in_ok-keyword-in-len3-up
returns-in_ok-keyword-in-len3-up c =
    c.if_spelled-in-len3-up.ensures
    ∙ one_looks (piece_of c.args.word) c.in_ok-keyword-in-len3-up.keyword (sym c.in_ok-keyword-in-len3-up.was ∙ c.keyword_by.ensures)
