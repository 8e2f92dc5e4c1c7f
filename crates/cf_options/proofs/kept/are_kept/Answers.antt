use Rattle.std.proofs.Common.{ap, not, sym}
use Rattle.cf_options.specs.Last.{is_dropped}
use Rattle.cf_types.specs.declared.stmt.Item.{Item}
use Rattle.cf_options.proofs.KeptLemmas.{kept_all, kept_step}
use Rattle.cf_options.proofs.kept.are_kept.Goals as goal

pub loop-item-preserved : goal.loop-item-preserved
loop-item-preserved c =
    kept_step (λ (x : Item). not (is_dropped c.args.last.now c.args.place x.name)) c.args.items.now c.loop-item.item-index c.item-item.result c.loop-item-test.true c.item-item.is c.loop-item.invariant
    (ap not (sym c.if-is_dropped.ensures))

pub returns : goal.returns
returns c = λ h. kept_all (λ (x : Item). not (is_dropped c.args.last.now c.args.place x.name)) c.args.items.now c.loop-item.item-index c.loop-item-test.false c.loop-item.invariant
