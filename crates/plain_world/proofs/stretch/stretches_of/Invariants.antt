use Rattle.run_rules.proofs.Spans.{AreSpansTo}
use Rattle.plain_world.proofs.stretch.stretches_of.Given as goal

abbrev pub invariant-loop-number : goal.invariant-loop-number
invariant-loop-number l = AreSpansTo l.machine l.number l.stretches.items
