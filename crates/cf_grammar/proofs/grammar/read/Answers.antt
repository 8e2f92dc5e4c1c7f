use Rattle.std.proofs.Common.{◌∙◌, sym, map, ap, Some}
use Rattle.cf_words.specs.Words.{piece_of}
use Rattle.cf_grammar.proofs.GrammarLemmas.{fault_left_out, fault_long, fault_unread, form_is}
use Rattle.cf_grammar.proofs.grammar.read.Goals as goal

pub returns-then-is_left_out-clause-fault : goal.returns-then-is_left_out-clause-fault
returns-then-is_left_out-clause-fault c = fault_left_out (map piece_of c.args.words.now) c.if-is_left_out.ensures

pub returns-then-not-short-clause-fault : goal.returns-then-not-short-clause-fault
returns-then-not-short-clause-fault c = fault_long (map piece_of c.args.words.now) c.if-is_left_out.ensures (sym c.if-not-short.true ∙ c.requires)

pub returns-in-Some-clause-form : goal.returns-in-Some-clause-form
returns-in-Some-clause-form c =
    form_is (map piece_of c.args.words.now) c.in-Some.stmt c.if-is_left_out.ensures (sym c.in-Some.is ∙ c.in_ok-stmt.ensures)

pub returns-in_ok-unread_code-in-None-clause-fault : goal.returns-in_ok-unread_code-in-None-clause-fault
returns-in_ok-unread_code-in-None-clause-fault c =
    fault_unread (map piece_of c.args.words.now) c.if-is_left_out.ensures (sym c.in-None.is ∙ c.in_ok-stmt.ensures)
    ∙ ap Some (sym c.in_ok-unread_code-in-None.ensures)
