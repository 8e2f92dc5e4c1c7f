use Rattle.std.proofs.Common.{ap, sym, ◌∙◌}
use Rattle.config_rules.specs.Select.{has_name}
use Rattle.file_rules.specs.Chosen.{attr_name}
use Rattle.file_select.proofs.MarkLemmas.{adds_test, named_at}
use Rattle.file_select.proofs.marks.mark_named.Goals as goal

pub loop-place-preserved : goal.loop-place-preserved
loop-place-preserved c =
    adds_test (λ a. has_name c.args.names.now (attr_name c.args.attrs.now a)) c.args.marks.now c.loop-place.marks c.mark_wanted.new.marks c.loop-place.place c.contains.result
    (ap (has_name c.args.names.now) (named_at c.args.attrs.now c.loop-place.place c.index-attrs-place.result c.loop-place-test.true c.index-attrs-place.is ∙ sym c.bytes.ensures.bytes) ∙ sym c.contains.ensures)
    c.loop-place.invariant c.mark_wanted.ensures
