use Rattle.std.proofs.Common.{◌∙◌, ap, arith, [], ◌∷◌}
use Rattle.cf_io.proofs.AskedLemmas.{front_all}
use Rattle.config_rules.specs.Reading.{reader, under_prefix}
use Rattle.cf_expand.specs.Levels.{include}
use Rattle.cf_expand.proofs.AskedLemmas.{all_grown, include_grows, include_stopped, reader_grows, stopped}
use Rattle.cf_expand.specs.Steps.{here_of}
use Rattle.cf_expand.proofs.open.open_include.Goals as goal

pub returns-in_err-path-clause-asked : goal.returns-in_err-path-clause-asked
returns-in_err-path-clause-asked g c = λ named e start around s line before.
    let levels = c.args.place.source.now.levels in
    let here = here_of around c.args.place.source.now in
    let old = c.args.progress.now in
    let whole = include named (reader levels named) here c.args.place.conditions.now s c.args.wanted.path c.args.wanted.optional old in
    stopped _ whole.asked _ _ _ _ c.from_residual-in_err-path.ensures.1
    (all_grown old whole _ _ (include_grows named (reader levels named) (reader_grows levels named) here c.args.place.conditions.now s c.args.wanted.path c.args.wanted.optional old) before)

pub returns-in_err-text-clause-asked : goal.returns-in_err-text-clause-asked
returns-in_err-text-clause-asked g c = λ named e start around s line before.
    include_stopped _ named c.args.place.source.now around c.args.place.conditions.now s c.args.wanted c.args.progress.now _ c.items-3.result.now _ _ _ _ (omega arith) (omega arith)
    (c.items-3.ensures ∙ c.in_ok-path.ensures ∙ ap (under_prefix c.args.progress.now.prefixes) c.items-2.ensures) c.from_residual-in_err-text.ensures.1 before c.in_err-text.ensures.asked

pub returns-in_err-place-in-Text-clause-asked : goal.returns-in_err-place-in-Text-clause-asked
returns-in_err-place-in-Text-clause-asked g c = λ named e start around s line before.
    include_stopped _ named c.args.place.source.now around c.args.place.conditions.now s c.args.wanted c.args.progress.now _ c.items-3.result.now _ _ _ _ (omega arith) (omega arith)
    (c.items-3.ensures ∙ c.in_ok-path.ensures ∙ ap (under_prefix c.args.progress.now.prefixes) c.items-2.ensures) c.from_residual-in_err-place-in-Text.ensures.1 before (front_all (c.items-3.result.now ∷ []) _ _ c.in_ok-text.ensures.asked)

pub returns-in_err-open-in-Text-clause-asked : goal.returns-in_err-open-in-Text-clause-asked
returns-in_err-open-in-Text-clause-asked g c = λ named e start around s line before.
    include_stopped _ named c.args.place.source.now around c.args.place.conditions.now s c.args.wanted c.args.progress.now _ c.items-3.result.now _ _ _ _ (omega arith) (omega arith)
    (c.items-3.ensures ∙ c.in_ok-path.ensures ∙ ap (under_prefix c.args.progress.now.prefixes) c.items-2.ensures) c.from_residual-in_err-open-in-Text.ensures.1 before (front_all (c.items-3.result.now ∷ []) _ _ c.in_ok-text.ensures.asked)

pub returns-in_err-absent-in-Absent-clause-asked : goal.returns-in_err-absent-in-Absent-clause-asked
returns-in_err-absent-in-Absent-clause-asked g c = λ named e start around s line before.
    include_stopped _ named c.args.place.source.now around c.args.place.conditions.now s c.args.wanted c.args.progress.now _ c.items-3.result.now _ _ _ _ (omega arith) (omega arith)
    (c.items-3.ensures ∙ c.in_ok-path.ensures ∙ ap (under_prefix c.args.progress.now.prefixes) c.items-2.ensures) c.from_residual-in_err-absent-in-Absent.ensures.1 before (front_all (c.items-3.result.now ∷ []) _ _ c.in_ok-text.ensures.asked)

pub returns-in_err-refuse-in-TooLong-clause-asked : goal.returns-in_err-refuse-in-TooLong-clause-asked
returns-in_err-refuse-in-TooLong-clause-asked g c = λ named e start around s line before.
    include_stopped _ named c.args.place.source.now around c.args.place.conditions.now s c.args.wanted c.args.progress.now _ c.items-3.result.now _ _ _ _ (omega arith) (omega arith)
    (c.items-3.ensures ∙ c.in_ok-path.ensures ∙ ap (under_prefix c.args.progress.now.prefixes) c.items-2.ensures) c.from_residual-in_err-refuse-in-TooLong.ensures.1 before (front_all (c.items-3.result.now ∷ []) _ _ c.in_ok-text.ensures.asked)
