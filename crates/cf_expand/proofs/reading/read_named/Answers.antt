use Rattle.std.proofs.Common.{◌∙◌, ap, sym, Some}
use Rattle.config_rules.specs.Reading.{Reading, reading}
use Rattle.cf_expand.specs.Steps.{entered}
use Rattle.cf_expand.proofs.AskedLemmas.{asked_still, asks_same, stopped_all}
use Rattle.cf_expand.proofs.ReadLemmas.{on_ok}
use Rattle.cf_expand.proofs.reading.read_named.Goals as goal

pub returns-in_default-clause-read : goal.returns-in_default-clause-read
unfolding reading
returns-in_default-clause-read g c = λ named e. rw c.in_default.is at (c.in_ok-opened.ensures.read named e)

pub returns-clause-read : goal.returns-clause-read
unfolding reading
returns-clause-read g c = λ named e.
    on_ok c.read_source.result (c.read_source.ensures.read named (c.in_ok-opened.ensures.told ∙ e))
    (λ h. h 0 (rw c.in-Some.is at c.in_ok-opened.ensures.below).0 ∙ (rw c.in-Some.is at (c.in_ok-opened.ensures.read named e)))

pub returns-in_err-opened-clause-asked : goal.returns-in_err-opened-clause-asked
unfolding reading
returns-in_err-opened-clause-asked g c = λ named e.
    stopped_all _ (reading named c.args.name.now).asked _ _ _ c.from_residual.ensures.1 (c.in_err-opened.ensures.asked named e)

pub returns-in_default-clause-asked : goal.returns-in_default-clause-asked
unfolding reading
returns-in_default-clause-asked g c = λ named e.
    asked_still _ _ _ _ (ap (λ (r : Reading). r.asked) (sym (rw c.in_default.is at (c.in_ok-opened.ensures.read named e)))) (c.in_ok-opened.ensures.asked named e)

pub returns-clause-asked : goal.returns-clause-asked
unfolding reading
returns-clause-asked g c = λ named e.
    asks_same (entered named 0 (Some c.in-Some.opened) c.open_first.new.progress) _ _ _ _ (rw c.in-Some.is at (c.in_ok-opened.ensures.read named e))
    (c.read_source.ensures.asked named (c.in_ok-opened.ensures.told ∙ e) _ 0 (rw c.in-Some.is at c.in_ok-opened.ensures.below).0 (c.in_ok-opened.ensures.asked named e))
