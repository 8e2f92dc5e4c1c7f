use Rattle.run_rules.proofs.Spans.{AreSpansTo}
use Rattle.scan_engine.proofs.spans.ChildSpans.make.Given as goal

abbrev pub invariant-loop-number : goal.invariant-loop-number
invariant-loop-number l = AreSpansTo l.machine l.number l.spans
