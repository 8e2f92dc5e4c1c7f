use Rattle.std.proofs.Common.{◌∙◌, arith}
use Rattle.app_output.proofs.TakenLemmas.{all_lines, front_before, one_more_line}
use Rattle.app_output.proofs.Puts.{lines_stop, passed_on}
use Rattle.app_output.proofs.lines.put_lines.Goals as goal

pub returns-in_default : goal.returns-in_default
returns-in_default g c = (front_before (g.L.Lines.lines c.args.lines.now) c.loop-place.place _ _ c.loop-place.invariant.grew, c.loop-place.invariant.counted)

pub returns-then-not-there : goal.returns-then-not-there
returns-then-not-there g c =
    let past = rw c.if-not-there.true at c.in-Ok.ensures in
    (all_lines (g.L.Lines.lines c.args.lines.now) c.loop-place.place _ _ past c.loop-place.invariant.grew, c.loop-place.invariant.counted)

pub returns-in_err-put_piece : goal.returns-in_err-put_piece
returns-in_err-put_piece g c =
    let here = rw c.if-not-there.false at c.in-Ok.ensures in
    passed_on _ _ _ c.from_residual.result _ c.from_residual.ensures.1
    (lines_stop (g.L.Lines.lines c.args.lines.now) c.loop-place.place c.deref.result.now _ _ _ _ here.0 (c.deref.ensures.value ∙ here.1) c.loop-place.invariant.grew c.loop-place.invariant.counted c.in_err-put_piece.ensures)

pub loop-place-preserved : goal.loop-place-preserved
loop-place-preserved g c =
    let here = rw c.if-not-there.false at c.in-Ok.ensures in
    record {
      within = omega (arith, here.0);
      grew = one_more_line (g.L.Lines.lines c.args.lines.now) c.loop-place.place c.deref.result.now _ _ _ here.0 (c.deref.ensures.value ∙ here.1) c.loop-place.invariant.grew c.in_ok-put_piece.ensures.0;
      counted = c.in_ok-put_piece.ensures.1 ∙ c.loop-place.invariant.counted;
    }

pub returns : goal.returns
returns g c = (front_before (g.L.Lines.lines c.args.lines.now) c.loop-place.place _ _ c.loop-place.invariant.grew, c.loop-place.invariant.counted)
