use Rattle.std.proofs.Common.{rules}
use Rattle.std.proofs.lemmas.Result.{err_from_is_err_and}
use Rattle.config_rules.specs.ScriptText.{is_value}
use Rattle.script_text.proofs.LeftLemmas.{carried}
use Rattle.script_text.proofs.OperandLemmas.{values_narrow, natural_bad, natural_read}
use Rattle.script_text.proofs.operand.transfer_value.Goals as goal

pub returns-in_err-written_value : goal.returns-in_err-written_value
returns-in_err-written_value c = carried _ _ _ _ c.in_err-written_value.ensures (err_from_is_err_and _ c.from_residual.ensures.1) (λ code h. natural_bad is_value c.args.word.now code values_narrow h)

pub returns-in-Some : goal.returns-in-Some
returns-in-Some c = natural_read is_value c.args.word.now c.in_ok-written_value.field-0 _ (search rules) c.in_ok-written_value.ensures c.in-Some.ensures

pub returns-in-None : goal.returns-in-None
returns-in-None c = natural_read is_value c.args.word.now c.in_ok-written_value.field-0 _ (search rules) c.in_ok-written_value.ensures c.in-None.ensures
