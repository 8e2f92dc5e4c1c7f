use Rattle.std.proofs.Common.{◌<◌, ◌++◌, ◌∙◌, List, length, sym, ap}
use Rattle.cf_types.specs.declared.stmt.Token.{Token}
use Rattle.config_rules.specs.Cut.{stop_behind}
use Rattle.cf_lexer.proofs.TextLemmas.{stop_of}
use Rattle.cf_lexer.proofs.rest.push_stop.Goals as goal

pub returns-in_ok-push_token : goal.returns-in_ok-push_token
returns-in_ok-push_token c =
    let tokens : List Token = c.deref.result.now in
    let some : 0 < length tokens = c.in-Some.ensures.item.3.0 in
    c.in_ok-push_token.ensures
    ∙ ap (λ (ts : List Token). c.args.tokens.now.items ++ ts)
    (sym (stop_of tokens c.in-Some.last.now c.in-Some.last.now some c.in-Some.ensures.item.1) ∙ ap stop_behind c.deref.ensures.value)
