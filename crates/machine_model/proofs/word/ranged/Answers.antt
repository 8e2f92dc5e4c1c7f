use Rattle.std.proofs.Common.{rules, ◌∙◌, ap, Some, SFits, w64, to_z-of_z}
use Rattle.machine_model.proofs.WordLemmas.{ranged_is}
use Rattle.machine_model.proofs.word.ranged.Goals as goal

pub returns-in-Value : goal.returns-in-Value
returns-in-Value c =
    let fits : SFits w64 c.in-Value.value = search rules in
    ap (λ v. Some (Some v)) (to_z-of_z fits) ∙ ranged_is _ c.args.word.now c.in-Value.ensures

pub returns-in-OutOfRange : goal.returns-in-OutOfRange
returns-in-OutOfRange c = ranged_is _ c.args.word.now c.in-OutOfRange.ensures

pub returns-in-Not : goal.returns-in-Not
returns-in-Not c = ranged_is _ c.args.word.now c.in-Not.ensures
