use Rattle.std.proofs.Common.{◌∙◌, sym}
use Rattle.plain_world.proofs.WantedLaws.{none_called, wanted_first, wanted_twice}
use Rattle.plain_world.proofs.wanted.with_first.Goals as goal

pub returns-in_default : goal.returns-in_default
returns-in_default c =
    none_called c.args.locators.now c.args.first.now c.args.rest.items ((rw c.bytes.ensures.bytes at c.locator_place.ensures.place) ∙ c.in_default.is)

pub returns-then-has_place : goal.returns-then-has_place
returns-then-has_place c =
    wanted_twice c.args.locators.now c.args.first.now c.args.rest.items c.in-Some.place ((rw c.bytes.ensures.bytes at c.locator_place.ensures.place) ∙ c.in-Some.is)
    (rw c.deref.ensures.value at (sym c.has_place.ensures ∙ c.if-has_place.true))

pub returns : goal.returns
returns c =
    rw (c.in_ok-insert.ensures.items, c.wanted_at.ensures)
    (wanted_first c.args.locators.now c.args.first.now c.args.rest.items c.in-Some.place ((rw c.bytes.ensures.bytes at c.locator_place.ensures.place) ∙ c.in-Some.is)
    (rw c.deref.ensures.value at (sym c.has_place.ensures ∙ c.if-has_place.false)))
