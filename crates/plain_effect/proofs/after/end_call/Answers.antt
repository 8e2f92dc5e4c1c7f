use Rattle.plain_effect.proofs.after.end_call.Goals as goal

pub returns-then-not-answer : goal.returns-then-not-answer
returns-then-not-answer c = λ s. rw (c.in-None.is, c.if-not-answer.true) (c.leave.ensures s)
