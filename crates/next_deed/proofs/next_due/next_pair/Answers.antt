use Rattle.std.proofs.Common.{arith}
use Rattle.next_deed.proofs.PairLaws.{none_yet, one_spot_more}
use Rattle.next_deed.proofs.next_due.next_pair.Goals as goal

pub loop-spot-init : goal.loop-spot-init
loop-spot-init c =
    none_yet c.args.going.now.setup c.args.going.now.live c.args.going.now.absent c.args.going.now.hidden c.args.scan.now.serial c.args.scan.now.filter.now c.args.scan.now.parent c.args.turn

pub loop-spot-preserved : goal.loop-spot-preserved
loop-spot-preserved c =
    one_spot_more c.args.going.now.setup c.args.going.now.live c.args.going.now.absent c.args.going.now.hidden c.args.scan.now.serial c.args.scan.now.filter.now c.args.scan.now.parent c.args.turn c.loop-spot.spot c.loop-spot.next
    c.sooner-next.result c.due_position-found.result c.due_position-found.ensures.place c.due_position-found.ensures.due c.sooner-next.ensures.behind c.sooner-next.ensures.sooner c.sooner-next.ensures.found c.loop-spot.invariant

pub returns-clause-behind : goal.returns-clause-behind
returns-clause-behind c = c.loop-spot.invariant.behind

pub returns-clause-bus : goal.returns-clause-bus
returns-clause-bus c = c.loop-spot.invariant.bus

pub returns-clause-idle : goal.returns-clause-idle
returns-clause-idle c = λ r x lt child after before. c.loop-spot.invariant.idle r x c.requires.indirect (omega (arith, lt, c.loop-spot-test.false, c.spot_count-spot-end.ensures.count)) child after before
