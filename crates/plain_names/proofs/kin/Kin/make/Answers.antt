use Rattle.plain_names.proofs.KinLaws.{one_more}
use Rattle.plain_names.proofs.kin.Kin.make.Goals as goal

pub loop-device-preserved : goal.loop-device-preserved
loop-device-preserved c =
    one_more c.args.live.now c.loop-device.device-index _ c.loop-device.lists.items c.add.new.lists.items c.loop-device-test.true c.loop-device.invariant c.in_ok-add.ensures
