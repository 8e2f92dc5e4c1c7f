use Rattle.cf_options.specs.Last.{is_dropped}
use Rattle.std.proofs.Common.{not}
use Rattle.cf_types.specs.declared.stmt.Item.{Item}
use Rattle.cf_options.proofs.KeptLemmas.{filter_step}
use Rattle.cf_options.proofs.kept.push_items.Goals as goal

pub loop-item-preserved : goal.loop-item-preserved
loop-item-preserved c =
    filter_step (λ (x : Item). not (is_dropped c.args.last.now c.args.place x.name)) c.args.items.now c.loop-item.item-index c.item-item.result c.args.kept.now
    c.loop-item.kept c.push_item.new.kept c.loop-item-test.true c.item-item.is c.loop-item.invariant c.in_ok-push_item.ensures
