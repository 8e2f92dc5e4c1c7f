use Rattle.std.proofs.Common.{◌∙◌}
use Rattle.scan_engine.proofs.StyleLaws.{line_more}
use Rattle.scan_engine.proofs.styles.add_line.Goals as goal

pub returns : goal.returns
returns c =
    λ lines are. line_more lines c.args.line.now c.reach.new.lists.items c.index_mut.result.now c.note.new.list c.in_ok-reach.ensures.ok c.index_mut.ensures.value c.in_ok-note.ensures
    (λ a i. c.in_ok-reach.ensures.same a i ∙ are a i)
