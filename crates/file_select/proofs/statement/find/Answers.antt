use Rattle.std.proofs.Common.{rules, subst}
use Rattle.config_rules.specs.Select.{has_name}
use Rattle.file_select.specs.Findings.{JudgesOptional}
use Rattle.file_select.specs.declared.condition.ConditionAnswer.{ConditionAnswer}
use Rattle.file_select.proofs.StatementLemmas.{found_good, found_too_deep}
use Rattle.file_select.proofs.statement.find.Goals as goal

pub returns-in-TooDeep : goal.returns-in-TooDeep
returns-in-TooDeep c =
    found_too_deep (has_name c.args.names.now) c.args.pieces.now _ c.split_condition.result.1.now (search rules) (search rules) (search rules) (search rules)
    (subst (λ (v : ConditionAnswer). JudgesOptional (has_name c.args.names.now) c.split_condition.result.0.now v) c.in-TooDeep.is c.in_ok-judge_optional.ensures)

pub returns-in-Value : goal.returns-in-Value
returns-in-Value c =
    found_good (has_name c.args.names.now) c.args.pieces.now _ c.split_condition.result.1.now c.in-Value.selected (search rules) (search rules) (search rules) (search rules)
    (subst (λ (v : ConditionAnswer). JudgesOptional (has_name c.args.names.now) c.split_condition.result.0.now v) c.in-Value.is c.in_ok-judge_optional.ensures)
