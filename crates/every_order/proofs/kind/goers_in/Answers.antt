use Rattle.std.proofs.Common.{◌∙◌, arith}
use Rattle.plain_world.specs.Plain.{world_of}
use Rattle.every_order.proofs.Counting.{goers_whole}
use Rattle.every_order.proofs.kind.goers_in.Goals as goal

pub returns-clause-counted : goal.returns-clause-counted
returns-clause-counted c =
    let many = c.args.plain.now.callers.ok.0 in
    c.loop-caller.invariant.counted
    ∙ goers_whole (world_of c.args.seeker.now.rules.now c.args.plain.now) c.loop-caller.caller (omega (arith, c.loop-caller-test.false, c.loop-caller.auto.caller-end, c.len-caller-end.ensures, many))
