use Rattle.std.proofs.Common.{rules}
use Rattle.app_every.proofs.Texts.{ways_more}
use Rattle.app_every.proofs.text.put_ways.Goals as goal

pub loop-place-preserved : goal.loop-place-preserved
loop-place-preserved c =
    ways_more c.args.kind.now c.args.ways.now c.loop-place.place c.index-ways-place.result _ _ _ c.loop-place-test.true (search rules) c.loop-place.invariant c.in_ok-put_way.ensures
