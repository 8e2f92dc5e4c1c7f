use Rattle.std.proofs.Common.{◌∙◌, sym}
use Rattle.machine_model.proofs.NumberLemmas.{number_elsewhere, number_past, number_there}
use Rattle.machine_model.proofs.numbers.number_at.Goals as goal

pub returns-then-eq : goal.returns-then-eq
returns-then-eq c =
    let there = rw c.deref.ensures.value at c.in-Some.ensures.lookup in
    sym (number_there c.args.numbers.now.items c.args.place c.args.name.now c.in-Some.numbered.now c.requires.place there.3.0 there.1 (sym c.eq.ensures ∙ c.if-eq.true))

pub returns-else-eq : goal.returns-else-eq
returns-else-eq c =
    let there = rw c.deref.ensures.value at c.in-Some.ensures.lookup in
    sym (number_elsewhere c.args.numbers.now.items c.args.place c.args.name.now c.in-Some.numbered.now c.requires.order c.requires.place there.3.0 there.1 (sym c.eq.ensures ∙ c.if-eq.false))

pub returns-in-None : goal.returns-in-None
returns-in-None c =
    let there = rw c.deref.ensures.value at c.in-None.ensures.lookup in
    sym (number_past c.args.numbers.now.items c.args.place c.args.name.now c.requires.place there.3)
