use Rattle.why_text.specs.WhyText.{head_text}
use Rattle.why_text.proofs.Widths.{width_more}
use Rattle.why_text.proofs.lines.column.Goals as goal

pub loop-row-preserved : goal.loop-row-preserved
loop-row-preserved c =
    width_more (head_text c.args.tables.now) c.args.rows.now c.loop-row.row-index 0 c.loop-row.width c.in_ok-wide.wide c.loop-row-test.true
    c.in_ok-wide.ensures c.loop-row.invariant
