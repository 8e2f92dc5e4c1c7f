use Rattle.std.proofs.Common.{◌∙◌}
use Rattle.next_deed.proofs.ChoiceLaws.{hindered_by}
use Rattle.next_deed.proofs.hindered.in_the_way.Goals as goal

pub returns : goal.returns
returns c =
    let by = c.args.leaving in
    (rw (c.tree-tree.ensures, c.refs-refs.ensures.refs) at c.hindered.ensures)
    ∙ hindered_by c.args.going.now c.in_ok-marks.marks by.target by.caller by.forced (c.in_ok-marks.ensures by.target by.forced)
