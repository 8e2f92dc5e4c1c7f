use Rattle.std.proofs.Common.{◌+◌, ◌++◌, ◌∙◌, ap, sym}
use Rattle.std.specs.Prelude.{Some}
use Rattle.cf_lexer.specs.Rest.{is_closed, rest_tokens}
use Rattle.cf_lexer.proofs.RestLemmas.{closed_statement, cut_to, cutting_first, cutting_good, cutting_more}
use Rattle.cf_lexer.proofs.rest.cut_statement.Goals as goal

pub loop-left-init : goal.loop-left-init
loop-left-init c =
    cutting_first c.args.text.now c.args.rest c.clear.new.self.items c.cut_checked.new.tokens.items c.in_ok-left.left c.requires c.clear.ensures.items
    c.in_ok-left.ensures.tokens c.in_ok-left.ensures.behind c.in_ok-left.ensures.further

pub returns-then-begins-clause-closed : goal.returns-then-begins-clause-closed
returns-then-begins-clause-closed c = ap is_closed c.in_ok-push_stop.ensures ∙ closed_statement c.loop-left.tokens.items

pub returns-then-begins-clause-whole : goal.returns-then-begins-clause-whole
returns-then-begins-clause-whole c =
    ap (λ ts. ts ++ rest_tokens c.args.text.now (Some (record { line = c.loop-left.line + 1; place = c.in-Some.place }))) c.in_ok-push_stop.ensures
    ∙ (cut_to c.args.text.now c.args.rest c.loop-left.line c.in-Some.place c.loop-left.tokens.items c.loop-left.left c.requires c.loop-left.invariant c.in-Some.is (sym c.begins.ensures ∙ c.if-begins.true)).0

pub cut_checked-requires-in-Some-clause-good : goal.cut_checked-requires-in-Some-clause-good
cut_checked-requires-in-Some-clause-good c = cutting_good c.args.text.now c.args.rest c.loop-left.line c.in-Some.place c.loop-left.tokens.items c.loop-left.left c.requires c.loop-left.invariant c.in-Some.is

pub loop-left-preserved : goal.loop-left-preserved
loop-left-preserved c =
    cutting_more c.args.text.now c.args.rest c.loop-left.line c.in-Some.place c.loop-left.tokens.items c.cut_checked-in-Some.new.tokens.items c.loop-left.left c.in_ok-left-2.left c.requires c.loop-left.invariant c.in-Some.is
    (sym c.begins.ensures ∙ c.if-begins.false) c.in_ok-left-2.ensures.tokens c.in_ok-left-2.ensures.behind c.in_ok-left-2.ensures.further

pub returns-clause-closed : goal.returns-clause-closed
returns-clause-closed c = ap is_closed c.in_ok-push_stop-2.ensures ∙ closed_statement c.loop-left.tokens.items
