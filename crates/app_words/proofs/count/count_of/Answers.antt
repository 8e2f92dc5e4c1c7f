use Rattle.std.proofs.Common.{rules, ◌∙◌, ap, SFits, w64, to_z-of_z}
use Rattle.std.specs.Prelude.{nat_abs}
use Rattle.config_rules.specs.Form.{given}
use Rattle.app_words.specs.Words.{in_count_range}
use Rattle.app_words.proofs.CountLemmas.{count_is, count_within, no_count}
use Rattle.app_words.proofs.count.count_of.Goals as goal

pub returns-in-Value-clause-count : goal.returns-in-Value-clause-count
returns-in-Value-clause-count c =
    let fits : SFits w64 c.in-Value.value = search rules in
    c.within_count.ensures.count ∙ ap (λ v. given (in_count_range v) (nat_abs v)) (to_z-of_z fits) ∙ count_is in_count_range count_within _ c.args.word.now c.in-Value.ensures

pub returns-in-OutOfRange : goal.returns-in-OutOfRange
returns-in-OutOfRange c = record { count = no_count in_count_range count_within _ c.args.word.now c.in-OutOfRange.is c.read_number.ensures; range = tt }
