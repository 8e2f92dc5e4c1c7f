use Rattle.std.proofs.Common.{rules}
use Rattle.std.proofs.lemmas.Result.{err_from_is_err_and}
use Rattle.script_text.specs.WatchText.{between}
use Rattle.script_text.proofs.LeftLemmas.{carried}
use Rattle.script_text.proofs.OperandLemmas.{between_narrow, natural_bad, natural_read}
use Rattle.script_text.proofs.operand.number_between.Goals as goal

pub returns-in_err-written_value-clause-leaves : goal.returns-in_err-written_value-clause-leaves
returns-in_err-written_value-clause-leaves c = carried _ _ _ _ c.in_err-written_value.ensures (err_from_is_err_and _ c.from_residual.ensures.1) (λ code h. natural_bad (between c.args.low c.args.high) c.args.word.now code (between_narrow c.args.low c.args.high (search rules)) h)

pub returns-in-Some-clause-leaves : goal.returns-in-Some-clause-leaves
returns-in-Some-clause-leaves c = natural_read (between c.args.low c.args.high) c.args.word.now c.in_ok-written_value.field-0 _ (search rules) c.in_ok-written_value.ensures c.in-Some.ensures.value

pub returns-in-None-clause-leaves : goal.returns-in-None-clause-leaves
returns-in-None-clause-leaves c = natural_read (between c.args.low c.args.high) c.args.word.now c.in_ok-written_value.field-0 _ (search rules) c.in_ok-written_value.ensures c.in-None.ensures.value
