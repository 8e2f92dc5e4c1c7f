use Rattle.next_deed.proofs.PairLaws.{NothingBefore}
use Rattle.next_deed.proofs.next_due.next_pair.Given as goal

abbrev pub invariant-loop-spot : goal.invariant-loop-spot
invariant-loop-spot l = NothingBefore l.going.setup l.going.live l.going.absent l.going.hidden l.scan.serial l.scan.filter.now l.scan.parent l.turn l.spot l.next
