use Rattle.std.proofs.Common.{true}
use Rattle.cf_options.specs.ItemFlags.{flag_of}
use Rattle.cf_options.proofs.FlagLemmas.{items_more}
use Rattle.cf_options.proofs.standing.set_items.Goals as goal

pub loop-item-preserved : goal.loop-item-preserved
loop-item-preserved c =
    λ q h. items_more c.args.items.now c.loop-item.item-index c.item-item.result q true (flag_of c.args.flags.now q) (flag_of c.loop-item.flags q) _
    c.loop-item-test.true c.item-item.is (c.loop-item.invariant q h) (c.in_ok-set.ensures q h)
