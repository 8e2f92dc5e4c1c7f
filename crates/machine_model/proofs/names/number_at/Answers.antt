use Rattle.std.proofs.Common.{◌∙◌, sym}
use Rattle.machine_model.proofs.NameLemmas.{held_is, number_past, number_there}
use Rattle.machine_model.proofs.names.number_at.Goals as goal

pub returns-then-eq : goal.returns-then-eq
returns-then-eq c =
    let names = c.args.names.now in
    let there = rw c.deref.ensures.value at c.in-Some.ensures.lookup in
    let is = held_is names c.args.name.now c.args.slot c.index.result.now c.requires.slot c.requires.slots.some_slots c.index.ensures in
    number_there names c.args.name.now c.index.result.now c.in-Some.other.now _ is there.3.0 there.1 (sym c.eq.ensures ∙ c.if-eq.true)

pub returns-else-eq : goal.returns-else-eq
returns-else-eq c =
    let names = c.args.names.now in
    let there = rw c.deref.ensures.value at c.in-Some.ensures.lookup in
    let is = held_is names c.args.name.now c.args.slot c.index.result.now c.requires.slot c.requires.slots.some_slots c.index.ensures in
    c.number_in.ensures ∙ number_there names c.args.name.now c.index.result.now c.in-Some.other.now _ is there.3.0 there.1 (sym c.eq.ensures ∙ c.if-eq.false)

pub returns-in-None : goal.returns-in-None
returns-in-None c =
    let names = c.args.names.now in
    let there = rw c.deref.ensures.value at c.in-None.ensures.lookup in
    let is = held_is names c.args.name.now c.args.slot c.index.result.now c.requires.slot c.requires.slots.some_slots c.index.ensures in
    number_past names c.args.name.now c.index.result.now is there.3
