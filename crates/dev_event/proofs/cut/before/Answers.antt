use Rattle.std.proofs.Common.{arith}
use Rattle.dev_event.proofs.Cuts.{before_at, before_none}
use Rattle.dev_event.proofs.cut.before.Goals as goal

pub returns-then-byte-mark : goal.returns-then-byte-mark
returns-then-byte-mark c = before_at c.args.mark c.args.text.now c.loop-index.index c.loop-index-test.true c.loop-index.invariant c.if-byte-mark.true

pub returns : goal.returns
returns c = before_none c.args.mark c.args.text.now (λ k less. c.loop-index.invariant k (omega arith))
