use Rattle.std.proofs.Common.{length, subst, sym, take}
use Rattle.std.proofs.lemmas.List.{take_more}
use Rattle.run_rules.specs.MatchLines.{AreOwnLines, lines_in}
use Rattle.plain_rows.proofs.lines.own_lines.Goals as goal

pub loop-line-preserved : goal.loop-line-preserved
loop-line-preserved c =
    subst (λ lines. AreOwnLines (length c.args.spots.now) lines (lines_in c.add_line.new.lists.items)) (sym (take_more c.args.lines.now c.loop-line.line-index _ c.loop-line-test.true))
    (c.in_ok-add_line.ensures (length c.args.spots.now) (take c.loop-line.line-index c.args.lines.now) c.loop-line.invariant)
