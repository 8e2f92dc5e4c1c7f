use Rattle.script_text.proofs.OperandLemmas.{number_is}
use Rattle.script_text.proofs.operand.spells_number.Goals as goal

pub returns-in-Not : goal.returns-in-Not
returns-in-Not c = number_is _ c.args.word.now c.in-Not.ensures

pub returns-in-OutOfRange : goal.returns-in-OutOfRange
returns-in-OutOfRange c = number_is _ c.args.word.now c.in-OutOfRange.ensures

pub returns-in-Value : goal.returns-in-Value
returns-in-Value c = number_is _ c.args.word.now c.in-Value.ensures
