use Rattle.std.proofs.Common.{◌∙◌, ap, sym, ◌+◌, ◌%◌, arith}
use Rattle.run_world.proofs.NameLaws.{none_named, last_digit, more_digits, other_digit}
use Rattle.run_world.proofs.named.+is_unit_name.Goals as goal

pub returns-in-empty : goal.returns-in-empty
returns-in-empty t c = none_named c.args.front.now c.args.unit c.args.name.now (omega arith) c.in-empty.len_below

pub returns-then-ends : goal.returns-then-ends
returns-then-ends t c =
    last_digit c.args.front.now c.args.unit c.args.name.now c.if-unit-lt10.true c.in-len1-up.len_at_least
    (sym c.from.ensures ∙ c.if-ends.true ∙ ap (λ z. z + c.args.unit % 10) c.from-in-len1-up.ensures)
    ∙ sym c.eq.ensures

pub returns-then-ends-2 : goal.returns-then-ends-2
returns-then-ends-2 t c =
    more_digits c.args.front.now c.args.unit c.args.name.now c.if-unit-lt10.false (omega arith) c.in-len1-up.len_at_least
    (sym c.from.ensures ∙ c.if-ends-2.true ∙ ap (λ z. z + c.args.unit % 10) c.from-in-len1-up.ensures)
    ∙ c.is_unit_name.ensures

pub returns-else-ends : goal.returns-else-ends
returns-else-ends t c =
    other_digit c.args.front.now c.args.unit c.from.result c.from-in-len1-up.result c.args.name.now (omega arith) c.in-len1-up.len_at_least c.from.ensures c.from-in-len1-up.ensures
    c.if-ends.false

pub returns-else-ends-2 : goal.returns-else-ends-2
returns-else-ends-2 t c =
    other_digit c.args.front.now c.args.unit c.from.result c.from-in-len1-up.result c.args.name.now (omega arith) c.in-len1-up.len_at_least c.from.ensures c.from-in-len1-up.ensures
    c.if-ends-2.false
