use Rattle.std.proofs.Common.{◌∙◌, ap, length, get_or, false, Bool, List}
use Rattle.file_select.proofs.MarkLemmas.{whole_slice}
use Rattle.file_select.proofs.marks.reached_marks.Goals as goal

pub returns-clause-marked : goal.returns-clause-marked
returns-clause-marked c = λ a.
    ap (λ (m : List Bool). get_or m a false)
    (whole_slice c.in_ok-marks.marks.len c.mark_reached.new.marks c.in_ok-marks.marks.items (c.in_ok-mark_reached.ensures.size ∙ ap length c.deref_mut.ensures.value) (c.in_ok-mark_reached.ensures.size ∙ c.deref_mut.ensures.len))
    ∙ c.in_ok-mark_reached.ensures.marked a
