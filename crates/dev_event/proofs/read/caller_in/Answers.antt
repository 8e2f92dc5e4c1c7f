use Rattle.std.proofs.Common.{arith, sym, ◌∙◌}
use Rattle.dev_event.proofs.Callers.{caller_number, digits_are, digits_are_none}
use Rattle.dev_event.proofs.read.caller_in.Goals as goal
use Rattle.dev_event.proofs.read.caller_in.Goals.{else-number-le-MAX_CALLER-via-then-number-le-MAX_CALLER+else-spells_caller, else-number-le-MAX_CALLER-via-else-number-le-MAX_CALLER}

pub returns-then-spells_caller : goal.returns-then-spells_caller
returns-then-spells_caller c = (c.if-number-le-MAX_CALLER.true, digits_are c.args.digits.now c.number_in-number.result (sym c.spells_caller.ensures ∙ c.if-spells_caller.true))

pub returns-else-number-le-MAX_CALLER : goal.returns-else-number-le-MAX_CALLER
returns-else-number-le-MAX_CALLER c = elim c.else-number-le-MAX_CALLER.branch [
  | else-number-le-MAX_CALLER-via-then-number-le-MAX_CALLER+else-spells_caller w ↦
      λ k low same. digits_are_none c.args.digits.now c.number_in-number.result k c.number_in-number.ensures (sym w.spells_caller.ensures ∙ w.if-spells_caller.false) low same
  | else-number-le-MAX_CALLER-via-else-number-le-MAX_CALLER w ↦
      λ k low same. absurd (omega (arith, caller_number c.args.digits.now c.number_in-number.result k c.number_in-number.ensures low same))
]
