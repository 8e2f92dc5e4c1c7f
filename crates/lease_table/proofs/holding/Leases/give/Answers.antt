use Rattle.std.proofs.Common.{sym, ap, ◌∙◌, length-set}
use Rattle.std.specs.Prelude.{slice_set, None}
use Rattle.std.proofs.lemmas.List.{map-set}
use Rattle.lease_table.specs.declared.view.Claim.TheVariants.{Nothing}
use Rattle.lease_table.specs.Holding.{claim_of}
use Rattle.lease_table.proofs.holding.Leases.give.Goals as goal

pub invariant_of-self : goal.invariant_of-self
invariant_of-self c =
    let s = c.self.inside in
    let kept = c.self.invariant in (
      ap (λ z. z.standing.claims) c.give.ensures.given ∙ (ap (λ h. slice_set h c.args.slot Nothing) kept.0 ∙ sym (map-set claim_of s.held.items c.args.slot None)),
      length-set s.held.items c.args.slot None ∙ kept.1,
      kept.2 ∙ sym (ap (λ z. z.words) c.give.ensures.same.0),
    )
