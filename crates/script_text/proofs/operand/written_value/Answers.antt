use Rattle.std.proofs.Common.{rules, ◌∙◌, ap, sym, Ok, SFits, w64, to_z-of_z}
use Rattle.script_text.proofs.OperandLemmas.{within_is}
use Rattle.script_text.proofs.operand.written_value.Goals as goal

pub returns-in-Not : goal.returns-in-Not
returns-in-Not c = within_is _ c.args.word.now c.in-Not.ensures

pub returns-in-OutOfRange : goal.returns-in-OutOfRange
returns-in-OutOfRange c = within_is _ c.args.word.now c.in-OutOfRange.ensures

pub returns-in-Value : goal.returns-in-Value
returns-in-Value c =
    let fits : SFits w64 c.in-Value.value = search rules in
    within_is _ c.args.word.now c.in-Value.ensures ∙ ap Ok (sym (to_z-of_z fits))
