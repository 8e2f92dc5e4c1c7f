use Rattle.std.proofs.Common.{◌+◌, ◌-◌, ◌∙◌, length, ap, arith}
use Rattle.config_rules.specs.MachineText.{depth_of}
use Rattle.machine_model.proofs.SpotLemmas.{depth_some}
use Rattle.machine_model.proofs.spot.depth_below.Goals as goal

pub loop-preserved : goal.loop-preserved
loop-preserved c =
    let spots = c.args.spots.now in
    let n = length c.args.spots.now in
    let i = c.loop.counter in
    let step = ap (depth_of (n - i) spots) c.in-Some.is ∙ depth_some (n - i) (n - (i + 1)) spots c.in-Some.number (omega (arith, c.loop-test.true)) in
    let up = ap (depth_of (n - (i + 1)) spots) c.parent_of-above.ensures in
    record {
      so_far = omega (arith, c.loop.invariant.so_far, step, up);
      count = omega (arith, c.loop.invariant.count);
    }
