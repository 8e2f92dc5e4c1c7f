use Rattle.std.proofs.Common.{◌≤◌, ◌+◌, ◌-◌, ◌∙◌, length, drop, arith}
use Rattle.std.proofs.lemmas.List.{length-drop, take_all}
use Rattle.dev_event.proofs.Cuts.{behind_at, behind_none}
use Rattle.dev_event.proofs.cut.behind.Goals as goal

pub returns-then-byte-mark : goal.returns-then-byte-mark
returns-then-byte-mark c =
    let few : length (drop (c.loop-index.index + 1) c.args.text.now) ≤ length c.args.text.now - (c.loop-index.index + 1) = omega (arith, length-drop (c.loop-index.index + 1) c.args.text.now) in
    take_all (length c.args.text.now - (c.loop-index.index + 1)) (drop (c.loop-index.index + 1) c.args.text.now) few
    ∙ behind_at c.args.mark c.args.text.now c.loop-index.index c.loop-index-test.true c.loop-index.invariant c.if-byte-mark.true

pub returns : goal.returns
returns c = behind_none c.args.mark c.args.text.now (λ k less. c.loop-index.invariant k (omega arith))
