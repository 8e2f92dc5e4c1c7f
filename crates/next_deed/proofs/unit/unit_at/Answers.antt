use Rattle.std.proofs.Common.{◌≡◌, ◌≤◌, ◌∙◌, length, subst, sym}
use Rattle.run_rules.specs.Search as rule
use Rattle.run_rules.specs.World.{World}
use Rattle.run_world.proofs.GoingLaws.{live_few}
use Rattle.run_world.proofs.UnitLaws.{few_taken}
use Rattle.next_deed.proofs.unit.unit_at.Goals as goal

pub unit_of-requires-clause-few : goal.unit_of-requires-clause-few
unit_of-requires-clause-few c = λ device.
    let held = c.held.inside in
    few_taken held.site.setup held.core.tree.live held.core.units device c.held.invariant.units
    (subst (λ (w : World). length w.live ≤ 1024) (sym c.held.view_is) (live_few c.going.inside.held c.going.invariant))

pub returns : goal.returns
returns c =
    subst (λ (w : World). rule.unit_of w.setup w.live c.args.row ≡ c.unit_of.result) (c.held.view_is ∙ c.going.view_is)
    (c.unit_of.ensures c.held.inside.core.tree.live c.held.invariant.units)
