use Rattle.std.specs.Prelude.{Some}
use Rattle.cf_lexer.specs.Rest.{rest_tokens}
use Rattle.cf_expand.proofs.UnreadLemmas.{passes_same}
use Rattle.cf_expand.proofs.unread.wanted.Goals as goal

pub returns-then-is_live-clause-passes : goal.returns-then-is_live-clause-passes
returns-then-is_live-clause-passes c = passes_same c.args.is_live c.args.text.now (rest_tokens c.args.text.now (Some c.args.rest))
