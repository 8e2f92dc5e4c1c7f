use Rattle.std.proofs.Common.{ap, sym, ◌∙◌}
use Rattle.std.specs.Prelude.{bytes_eq}
use Rattle.dev_event.proofs.Callers.{one_digit, two_digits}
use Rattle.dev_event.proofs.read.spells_caller.Goals as goal

pub returns-then-caller-lt10 : goal.returns-then-caller-lt10
returns-then-caller-lt10 c = c.is.ensures ∙ ap (bytes_eq c.args.digits.now) (sym (one_digit c.args.caller c.if-caller-lt10.true))

pub returns-else-caller-lt10 : goal.returns-else-caller-lt10
returns-else-caller-lt10 c = c.is-else-caller-lt10.ensures ∙ ap (bytes_eq c.args.digits.now) (sym (two_digits c.args.caller c.if-caller-lt10.false c.requires))
