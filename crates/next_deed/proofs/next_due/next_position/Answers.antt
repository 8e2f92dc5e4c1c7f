use Rattle.next_deed.proofs.PairLaws.{closed_between, further_on, later_attr}
use Rattle.next_deed.proofs.next_due.next_position.Goals as goal

pub returns-then-turn : goal.returns-then-turn
returns-then-turn c = record {
  behind = c.next_pair.ensures.behind;
  bus = c.next_pair.ensures.bus;
  idle = c.next_pair.ensures.idle;
}

pub returns-else-turn-clause-behind : goal.returns-else-turn-clause-behind
returns-else-turn-clause-behind c = further_on c.args.turn.at c.next_on_bus.result c.next_on_bus.ensures.here.0 c.next_on_bus.ensures.here.1 c.next_on_bus.ensures.behind

pub returns-else-turn-clause-bus : goal.returns-else-turn-clause-bus
returns-else-turn-clause-bus c = λ p h. rw (← c.next_on_bus.ensures.here.0) (later_attr p c.next_on_bus.result h)

pub returns-else-turn-clause-idle : goal.returns-else-turn-clause-idle
returns-else-turn-clause-idle c =
    closed_between c.args.going.now.setup c.args.going.now.live c.args.going.now.absent c.args.going.now.hidden c.args.scan.now.serial c.args.scan.now.filter.now c.args.scan.now.parent c.args.turn c.next_on_bus.result
    c.next_on_bus.ensures.here.0 c.next_on_bus.ensures.here.1 c.next_on_bus.ensures.passed
