use Rattle.std.proofs.Common.{◌∙◌, sym, subst}
use Rattle.config_rules.specs.Select.{has_name}
use Rattle.file_select.specs.Findings.{Judges}
use Rattle.file_select.specs.declared.condition.ConditionAnswer.{ConditionAnswer}
use Rattle.file_select.proofs.TreeLemmas.{judged, judged_none}
use Rattle.file_select.proofs.condition.judge.Goals as goal

pub returns-in-Some : goal.returns-in-Some
returns-in-Some c =
    subst (λ (v : ConditionAnswer). Judges (has_name c.args.names.now) c.args.pieces.now v) (sym c.answer.ensures)
    (judged (has_name c.args.names.now) c.args.pieces.now c.in-Some.read (sym c.in-Some.is ∙ c.in_ok-read.ensures))

pub returns-in-None : goal.returns-in-None
returns-in-None c = judged_none (has_name c.args.names.now) c.args.pieces.now (sym c.in-None.is ∙ c.in_ok-read.ensures)
