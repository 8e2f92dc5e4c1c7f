use Rattle.std.proofs.Common.{◌∙◌, sym, true, false}
use Rattle.next_deed.proofs.RescanLaws.{unnamed, unoffered, rescanned}
use Rattle.next_deed.proofs.rescan.attr_of.Goals as goal

pub returns-in-None : goal.returns-in-None
returns-in-None c = λ d offered. unnamed c.args.going.now d c.args.name.now c.args.given.now (rw (← c.setup-setup.ensures) (c.attr_named.ensures ∙ c.in-None.is))

pub returns-then-not-has : goal.returns-then-not-has
returns-then-not-has c = λ d offered.
    unoffered c.args.going.now d c.args.name.now c.args.given.now c.in-Some.attr (rw (← c.setup-setup.ensures) (c.attr_named.ensures ∙ c.in-Some.is)) (rw offered (sym c.has.ensures ∙ c.if-not-has.true))

pub returns-then-not-are_wanted : goal.returns-then-not-are_wanted
returns-then-not-are_wanted c = λ d offered.
    rescanned c.args.going.now d c.args.name.now c.args.given.now c.in-Some.attr false (rw (← c.setup-setup.ensures) (c.attr_named.ensures ∙ c.in-Some.is)) (rw offered (sym c.has.ensures ∙ c.if-not-has.false))
    (rw (← c.setup-setup.ensures) ((rw c.locators_at.ensures at c.are_wanted.ensures) ∙ c.if-not-are_wanted.true))

pub returns-else-not-are_wanted : goal.returns-else-not-are_wanted
returns-else-not-are_wanted c = λ d offered.
    rescanned c.args.going.now d c.args.name.now c.args.given.now c.in-Some.attr true (rw (← c.setup-setup.ensures) (c.attr_named.ensures ∙ c.in-Some.is)) (rw offered (sym c.has.ensures ∙ c.if-not-has.false))
    (rw (← c.setup-setup.ensures) ((rw c.locators_at.ensures at c.are_wanted.ensures) ∙ c.if-not-are_wanted.false))
