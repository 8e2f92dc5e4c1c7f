use Rattle.std.proofs.Common.{◌∙◌, ap, arith, length, sym}
use Rattle.std.proofs.lemmas.List.{length-map}
use Rattle.run_rules.specs.World.{World}
use Rattle.run_world.specs.View.{caller_of}
use Rattle.run_world.proofs.GoingLaws.{over_few}
use Rattle.run_world.proofs.going.Going.caller.Goals as goal

pub returns-clause-low : goal.returns-clause-low
returns-clause-low c =
    let cs = c.held.inside.core.callers.items in
    let same = ap (λ (w : World). w.callers) (c.held.view_is ∙ c.self.view_is) in
    over_few c.self.inside.held cs c.args.caller c.index.result.now c.self.invariant (ap (λ (w : World). w.callers) (sym c.held.view_is))
    (omega (arith, c.requires, ap length same, length-map cs caller_of)) c.index.ensures
