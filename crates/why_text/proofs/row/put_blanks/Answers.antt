use Rattle.why_text.proofs.Widths.{blank_more}
use Rattle.why_text.proofs.row.put_blanks.Goals as goal

pub loop-place-preserved : goal.loop-place-preserved
loop-place-preserved c = blank_more _ _ _ c.loop-place._place c.loop-place.invariant c.in_ok-push.ensures.items
