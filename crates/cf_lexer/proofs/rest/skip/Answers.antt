use Rattle.std.proofs.Common.{◌≡◌, false, Option, Some, ap, sym, subst, ◌∙◌, drop}
use Rattle.std.proofs.lemmas.List.{take_rest}
use Rattle.cf_lexer.specs.declared.rest.Rest.{Rest}
use Rattle.cf_lexer.specs.Rest.{Passes, names_condition, rest_tokens}
use Rattle.cf_lexer.proofs.RestLemmas.{passes_more, passes_none}
use Rattle.cf_lexer.proofs.rest.skip.Goals as goal

pub loop-left-init : goal.loop-left-init
loop-left-init c = record { rest = c.requires; passes = passes_none c.args.text.now (rest_tokens c.args.text.now (Some c.args.rest)) }

pub loop-left-preserved : goal.loop-left-preserved
loop-left-preserved c =
    let text = c.args.text.now in
    let old = rest_tokens text (Some c.args.rest) in
    let here : Passes text old (rest_tokens text (Some c.in-Some.next)) = subst (λ (o : Option Rest). Passes text old (rest_tokens text o)) c.in-Some.is c.loop-left.invariant.passes in
    let quiet : names_condition (drop c.in-Some.next.place text) ≡ false =
    ap names_condition (sym (take_rest text c.in-Some.next.place)) ∙ sym c.names_condition.ensures ∙ c.if-names_condition.false in
    record { rest = c.next_statement-left.ensures.rest; passes = passes_more text old c.in-Some.next c.next_statement-left.result here quiet c.next_statement-left.ensures }
