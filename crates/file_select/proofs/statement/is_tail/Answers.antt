use Rattle.std.proofs.Common.{arith}
use Rattle.file_rules.specs.Sources.{is_flag}
use Rattle.file_select.proofs.StatementLemmas.{prefix_within}
use Rattle.file_select.proofs.statement.is_tail.Goals as goal

pub split_at-requires : goal.split_at-requires
split_at-requires c = omega (arith, c.count_flags.ensures, prefix_within is_flag c.args.pieces.now)
