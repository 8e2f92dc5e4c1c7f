use Rattle.std.proofs.Common.{◌∙◌, ap, refl, sym}
use Rattle.run_rules.specs.declared.world.ParentRef.{ParentRef}
use Rattle.run_rules.specs.Next as next
use Rattle.run_rules.specs.Search.{winner}
use Rattle.next_deed.proofs.search.arrival.Goals as goal

pub returns-in-Some : goal.returns-in-Some
unfolding next.arrival
returns-in-Some c =
    let w = c.args.going.now in
    rw (ap (λ (n : ParentRef). winner w.setup w.live n c.args.place c.args.spot) (sym c.requires) ∙ c.in-Some.ensures, c.unit_at.ensures) refl

pub returns-in-None : goal.returns-in-None
unfolding next.arrival
returns-in-None c =
    let w = c.args.going.now in
    rw (ap (λ (n : ParentRef). winner w.setup w.live n c.args.place c.args.spot) (sym c.requires) ∙ c.in-None.ensures) refl
