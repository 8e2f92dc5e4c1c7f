use Rattle.std.proofs.Common.{◌∙◌, ap, List, Bool, ℕ, length, length-append, arith}
use Rattle.std.specs.BTreeMap.{BTreeMap}
use Rattle.scan_engine.specs.Styled.{style_in}
use Rattle.scan_engine.proofs.StyleLaws.{none_more}
use Rattle.scan_engine.proofs.styles.reach.Goals as goal

pub loop-attach-preserved : goal.loop-attach-preserved
loop-attach-preserved c =
    (omega (arith, ap length c.in_ok-push.ensures.items, length-append {A = BTreeMap ℕ Bool}), λ a i. ap (λ (xs : List (BTreeMap ℕ Bool)). style_in xs a i) c.in_ok-push.ensures.items ∙ none_more c.loop-attach.lists.items c.new.result a i c.new.ensures.empty ∙ c.loop-attach.invariant.1 a i)
