use Rattle.std.proofs.Common.{◌∙◌, Some, None, ap, map, sym}
use Rattle.config_rules.specs.Form.{has_text_or_size}
use Rattle.cf_words.specs.Words.{piece_of}
use Rattle.cf_grammar.proofs.LeftOutKeywords.{by_keyword}
use Rattle.cf_grammar.proofs.fault.is_left_out_statement.Goals as goal

pub returns-else-is_left_out_word : goal.returns-else-is_left_out_word
returns-else-is_left_out_word c =
    let word = sym c.is_left_out_word.ensures ∙ c.if-is_left_out_word.false in
    rw (← by_keyword (piece_of c.args.first) (map piece_of c.args.rest.now) None (sym c.in-None.is ∙ c.requires), word) c.gives_text.ensures

pub returns-then-defines : goal.returns-then-defines
returns-then-defines c =
    let known = sym c.defines.ensures ∙ c.if-defines.true in
    rw (← by_keyword (piece_of c.args.first) (map piece_of c.args.rest.now) (Some c.in-Some.keyword) (sym c.in-Some.is ∙ c.requires), known)
    (c.has_text_or_size.ensures ∙ ap has_text_or_size c.braced.ensures)

pub returns-else-defines : goal.returns-else-defines
returns-else-defines c =
    let known = sym c.defines.ensures ∙ c.if-defines.false in
    rw (← by_keyword (piece_of c.args.first) (map piece_of c.args.rest.now) (Some c.in-Some.keyword) (sym c.in-Some.is ∙ c.requires), known) c.if-defines.false
