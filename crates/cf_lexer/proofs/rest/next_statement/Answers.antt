use Rattle.std.proofs.Common.{◌∙◌, sym}
use Rattle.cf_lexer.proofs.RestLemmas.{passed_all, passed_to, passing_first, passing_more}
use Rattle.cf_lexer.proofs.rest.next_statement.Goals as goal

pub loop-left-init : goal.loop-left-init
loop-left-init c = passing_first c.args.text.now c.args.rest c.next_line-left.result c.requires c.next_line-left.ensures.behind c.next_line-left.ensures.further

pub returns-then-begins : goal.returns-then-begins
returns-then-begins c = passed_to c.args.text.now c.args.rest c.loop-left.line c.in-Some.place c.loop-left.left c.requires c.loop-left.invariant c.in-Some.is (sym c.begins.ensures ∙ c.if-begins.true)

pub loop-left-preserved : goal.loop-left-preserved
loop-left-preserved c =
    passing_more c.args.text.now c.args.rest c.loop-left.line c.in-Some.place c.loop-left.left c.next_line-left-in-Some.result c.requires c.loop-left.invariant c.in-Some.is (sym c.begins.ensures ∙ c.if-begins.false)
    c.next_line-left-in-Some.ensures.behind c.next_line-left-in-Some.ensures.further

pub returns : goal.returns
returns c = passed_all c.args.text.now c.args.rest c.loop-left.line c.loop-left.left c.requires c.loop-left.invariant c.in_default.is
