use Rattle.config_rules.specs.Reading.{asking, nothing_read, read_first}
use Rattle.cf_expand.proofs.AskedLemmas.{all_grown, first_grows, front_grown, stopped}
use Rattle.cf_expand.proofs.open.open_first.Goals as goal

pub returns-in_err-text-clause-asked : goal.returns-in_err-text-clause-asked
returns-in_err-text-clause-asked g c = λ named e.
    let name = c.args.name.now in
    stopped _ (read_first named name (named name)).asked _ _ _ _ c.from_residual.ensures.1
    (front_grown (asking name nothing_read) _ _ _ (first_grows named name (named name)) c.in_err-text.ensures.asked)

pub returns-in_err-name-in-Text-clause-asked : goal.returns-in_err-name-in-Text-clause-asked
returns-in_err-name-in-Text-clause-asked g c = λ named e.
    let name = c.args.name.now in
    stopped _ (read_first named name (named name)).asked _ _ _ _ c.from_residual-in_err-name-in-Text.ensures.1
    (all_grown (asking name nothing_read) _ _ _ (first_grows named name (named name)) c.in_ok-text.ensures.asked)

pub returns-in_err-open-in-Text-clause-asked : goal.returns-in_err-open-in-Text-clause-asked
returns-in_err-open-in-Text-clause-asked g c = λ named e.
    let name = c.args.name.now in
    stopped _ (read_first named name (named name)).asked _ _ _ _ c.from_residual-in_err-open-in-Text.ensures.1
    (all_grown (asking name nothing_read) _ _ _ (first_grows named name (named name)) c.in_ok-text.ensures.asked)
