use Rattle.std.proofs.Common.{length, ap, sym, ◌∙◌}
use Rattle.dev_event.proofs.Callers.{caller_read, dot_there}
use Rattle.dev_event.proofs.read.read_caller.Goals as goal

pub returns-then-digits-line : goal.returns-then-digits-line
returns-then-digits-line c = λ k names. dot_there c.args.line.now k names (ap length (sym c.before-digits.ensures) ∙ c.if-digits-line.true)

pub returns : goal.returns
returns c = caller_read c.caller_in.result c.args.line.now c.before-digits.result.now c.before-digits.ensures c.if-digits-line.false c.caller_in.ensures
