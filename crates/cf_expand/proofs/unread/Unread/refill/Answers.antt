use Rattle.std.proofs.Common.{◌<◌, ◌≤◌, ◌++◌, Option, length, drop, ap, sym, subst, arith}
use Rattle.cf_lexer.specs.declared.rest.Rest.{Rest}
use Rattle.cf_lexer.specs.Rest.{rest_tokens}
use Rattle.cf_expand.specs.Unread.{PassesTo, Refills, Uncut}
use Rattle.cf_expand.proofs.UnreadLemmas.{none_there, refills_next, refills_same, some_left}
use Rattle.cf_expand.proofs.unread.Unread.refill.Goals as goal

pub returns-then-self-len : goal.returns-then-self-len
returns-then-self-len c =
    let it = c.self.inside in
    let lt : it.read < length it.tokens.items = omega (arith, c.if-self-len.true, c.len.ensures) in
    subst (λ (u : Uncut). Refills c.args.is_live u u) c.self.view_is
    (refills_same c.args.is_live (record { text = it.text.now; kept = drop it.read it.tokens.items; more = rest_tokens it.text.now it.rest })
    (λ none. some_left it.tokens.items it.read (rest_tokens it.text.now it.rest) lt none))

pub returns-in_default : goal.returns-in_default
returns-in_default c =
    let it = c.self.inside in
    subst (λ (u : Uncut). Refills c.args.is_live u u) c.self.view_is
    (refills_same c.args.is_live (record { text = it.text.now; kept = drop it.read it.tokens.items; more = rest_tokens it.text.now it.rest })
    (λ none. ap (rest_tokens it.text.now) c.in_default.is))

pub returns : goal.returns
returns c =
    let it = c.self.inside in
    let text = it.text.now in
    let live = c.args.is_live in
    let cut = c.cut_wanted.new.tokens.items in
    let more = rest_tokens text c.in_ok-self-inside.field-0 in
    let past : length it.tokens.items ≤ it.read = omega (arith, c.if-self-len.false, c.len.ensures) in
    let to : PassesTo live text (rest_tokens text it.rest) (cut ++ more) =
    subst (λ (o : Option Rest). PassesTo live text (rest_tokens text o) (cut ++ more)) (sym c.in-Some.is) c.in_ok-self-inside.ensures.passes in
    subst (λ (u : Uncut). Refills live u (record { text = text; kept = cut; more = more })) c.self.view_is
    (refills_next live text (drop it.read it.tokens.items) (rest_tokens text it.rest) cut more (none_there it.tokens.items it.read past) to c.in_ok-self-inside.ensures.closed c.in_ok-self-inside.ensures.ready)
