use Rattle.std.proofs.Common.{arith}
use Rattle.cf_words.proofs.ListLemmas.{empty_drop, from_second}
use Rattle.cf_expand.proofs.StatementLemmas.{parts_are, some_tokens, stop_within}
use Rattle.cf_expand.proofs.lines.first_statement.Goals as goal

pub split_at-requires : goal.split_at-requires
split_at-requires c = omega (arith, c.count_before_stop.ensures, stop_within c.args.tokens.now)

pub returns-in-empty : goal.returns-in-empty
returns-in-empty c =
    parts_are c.args.tokens.now c.split_at.result.0.now c.split_at.result.1.now c.split_at.result.1.now c.count_before_stop.result (some_tokens c.args.tokens.now c.if-is_empty.ensures) c.count_before_stop.ensures c.split_at.ensures.front c.split_at.ensures.back (empty_drop c.split_at.result.1.now (omega arith))

pub returns-in-len1-up : goal.returns-in-len1-up
returns-in-len1-up c =
    parts_are c.args.tokens.now c.split_at.result.0.now c.split_at.result.1.now _ c.count_before_stop.result (some_tokens c.args.tokens.now c.if-is_empty.ensures) c.count_before_stop.ensures c.split_at.ensures.front c.split_at.ensures.back (from_second c.split_at.result.1.now)
