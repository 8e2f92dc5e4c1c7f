use Rattle.config_rules.specs.Select.{has_name}
use Rattle.file_select.proofs.TreeLemmas.{optional_ok}
use Rattle.file_select.proofs.statement.judge_optional.Goals as goal

pub returns : goal.returns
returns c = optional_ok (has_name c.args.names.now) c.args.pieces.now c.judge.result c.if-is_empty.ensures c.judge.ensures
