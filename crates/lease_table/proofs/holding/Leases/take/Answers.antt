use Rattle.std.proofs.Common.{◌≡◌, sym, refl, ap, ◌∙◌, inl, length-set, subst, rules}
use Rattle.std.specs.Prelude.{slice_set, Some, map, slice_index_or}
use Rattle.std.proofs.lemmas.List.{map-set}
use Rattle.lease_table.specs.declared.view.Claim.TheVariants.{Nothing, Held}
use Rattle.lease_table.specs.Holding.{claim_of, Takes}
use Rattle.lease_table.proofs.holding.Leases.take.Goals as goal

pub returns-in-Some-clause-taken : goal.returns-in-Some-clause-taken
returns-in-Some-clause-taken c =
    let same : c.as_slice.result.now ≡ c.self.inside.held.items = search rules in
    subst (λ z. Takes c.args.slot z.view z.view) c.self.view_is (inl (c.in-Some.field-0, ap (λ h. slice_index_or h c.args.slot Nothing) c.self.invariant.0 ∙ (ap (λ h. slice_index_or (map claim_of h) c.args.slot Nothing) (sym same) ∙ sym c.in-Some.ensures.value), refl))

pub invariant_of-self : goal.invariant_of-self
invariant_of-self c =
    let s = c.self.inside in
    let kept = c.self.invariant in
    let g = c.lease.inside.generation in (
      ap (λ z. z.standing.claims) c.in-Lease.ensures.taken.1 ∙ (ap (λ l. slice_set s.seat.view.standing.claims c.args.slot (Held l.generation)) (sym c.lease.view_is) ∙ (ap (λ h. slice_set h c.args.slot (Held g)) kept.0 ∙ sym (map-set claim_of s.held.items c.args.slot (Some g)))),
      length-set s.held.items c.args.slot (Some g) ∙ kept.1,
      kept.2 ∙ sym (ap (λ z. z.words) c.in-Lease.ensures.same.0),
    )
