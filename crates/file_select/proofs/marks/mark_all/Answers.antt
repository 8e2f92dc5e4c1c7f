use Rattle.std.proofs.Common.{rules, get_or, refl}
use Rattle.file_select.proofs.MarkLemmas.{adds_more, adds_one}
use Rattle.file_select.proofs.marks.mark_all.Goals as goal

pub loop-attr-preserved : goal.loop-attr-preserved
loop-attr-preserved c =
    adds_more c.args.marks.now c.loop-attr.marks _ c.args.attrs.now c.loop-attr.attr-index (get_or c.args.attrs.now c.loop-attr.attr-index 0) c.loop-attr-test.true (search rules) c.loop-attr.invariant
    (adds_one c.loop-attr.marks _ (get_or c.args.attrs.now c.loop-attr.attr-index 0) (search rules) refl (search rules))
