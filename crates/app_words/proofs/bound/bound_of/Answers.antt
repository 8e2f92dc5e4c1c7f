use Rattle.std.proofs.Common.{rules, ◌∙◌, ap, SFits, w64, to_z-of_z}
use Rattle.std.specs.Prelude.{nat_abs}
use Rattle.config_rules.specs.Form.{given}
use Rattle.app_words.specs.Words.{in_bound_range}
use Rattle.app_words.proofs.CountLemmas.{bound_within, count_is, no_count}
use Rattle.app_words.proofs.bound.bound_of.Goals as goal

pub returns-in-Value : goal.returns-in-Value
returns-in-Value c =
    let fits : SFits w64 c.in-Value.value = search rules in
    c.within_bound.ensures ∙ ap (λ v. given (in_bound_range v) (nat_abs v)) (to_z-of_z fits) ∙ count_is in_bound_range bound_within _ c.args.word.now c.in-Value.ensures

pub returns-in-OutOfRange : goal.returns-in-OutOfRange
returns-in-OutOfRange c = no_count in_bound_range bound_within _ c.args.word.now c.in-OutOfRange.is c.read_number.ensures
