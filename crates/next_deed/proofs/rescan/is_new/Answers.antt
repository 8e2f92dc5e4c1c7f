use Rattle.std.proofs.Common.{◌∙◌, ap, sym, not, map}
use Rattle.next_deed.proofs.RescanLaws.{place_is, wanted_beside}
use Rattle.next_deed.proofs.rescan.is_new.Goals as goal

pub returns-in-Some : goal.returns-in-Some
returns-in-Some c =
    wanted_beside (map (λ l. l.name) c.args.locators.now) c.args.first.now c.args.rest.now _ c.requires
    (place_is c.args.locators.now c.args.first.now.name ∙ (rw c.bytes.ensures.bytes at c.locator_place.ensures.place) ∙ c.in-Some.is)
    ∙ ap not (sym c.is_given.ensures)

pub returns-in-None : goal.returns-in-None
returns-in-None c =
    wanted_beside (map (λ l. l.name) c.args.locators.now) c.args.first.now c.args.rest.now _ c.requires
    (place_is c.args.locators.now c.args.first.now.name ∙ (rw c.bytes.ensures.bytes at c.locator_place.ensures.place) ∙ c.in-None.is)
