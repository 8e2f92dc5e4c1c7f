use Rattle.std.proofs.Common.{◌∙◌, Option, ℕ, ap, rules}
use Rattle.std.specs.Prelude.{unwrap_or}
use Rattle.cf_names.specs.NameNumbers.{number_in}
use Rattle.cf_names.proofs.NumberLemmas.{next_name}
use Rattle.cf_names.proofs.numbers.add_name.Goals as goal

pub returns : goal.returns
returns c = λ names are size.
    next_name c.args.numbers.now _ _ c.args.name.now c.in-Ok.short c.or_insert.result.now
    (c.or_insert.ensures.value ∙ ap (λ (o : Option ℕ). unwrap_or o c.in-Ok.short) (c.in_ok-numbers.ensures.value ∙ ap (number_in c.args.numbers.now) c.in_ok-key.ensures))
    (search rules) c.in_ok-key.ensures names are (search (rules, size))
