use Rattle.std.proofs.Common.{arith, not}
use Rattle.file_rules.specs.Sources.{ends_condition}
use Rattle.file_select.proofs.StatementLemmas.{prefix_within}
use Rattle.file_select.proofs.statement.split_condition.Goals as goal

pub split_at-requires : goal.split_at-requires
split_at-requires c = omega (arith, c.count_condition.ensures, prefix_within (λ p. not (ends_condition p)) c.args.pieces.now)
