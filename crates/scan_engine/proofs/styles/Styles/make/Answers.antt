use Rattle.std.proofs.Common.{◌∙◌, ◌+◌, sym, subst, take, ap}
use Rattle.std.proofs.lemmas.List.{take_more}
use Rattle.scan_engine.specs.Styled.{AreStylesBy}
use Rattle.scan_engine.proofs.styles.Styles.make.Goals as goal

pub loop-line-preserved : goal.loop-line-preserved
loop-line-preserved c =
    subst (λ lines. AreStylesBy lines c.add_line.new.lists.items)
    (sym (ap (take (c.loop-line.line-index + 1)) (sym c.items-line-items.ensures) ∙ take_more c.items-line-items.result.now c.loop-line.line-index _ c.loop-line-test.true))
    (c.in_ok-add_line.ensures (take c.loop-line.line-index c.items-line-items.result.now) (subst (λ lines. AreStylesBy (take c.loop-line.line-index lines) c.loop-line.lists.items) (sym c.items-line-items.ensures) c.loop-line.invariant))
