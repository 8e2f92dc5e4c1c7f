use Rattle.std.proofs.Common.{◌∙◌, ap, sym}
use Rattle.run_rules.specs.World.{is_number}
use Rattle.next_deed.proofs.RescanLaws.{place_is}
use Rattle.next_deed.proofs.rescan.stands_at.Goals as goal

pub returns-in-Some : goal.returns-in-Some
returns-in-Some c = sym (ap (λ o. is_number o c.args.place) (place_is c.args.locators.now c.args.given.now.name ∙ (rw c.bytes.ensures.bytes at c.locator_place.ensures.place) ∙ c.in-Some.is))

pub returns-in-None : goal.returns-in-None
returns-in-None c = sym (ap (λ o. is_number o c.args.place) (place_is c.args.locators.now c.args.given.now.name ∙ (rw c.bytes.ensures.bytes at c.locator_place.ensures.place) ∙ c.in-None.is))
