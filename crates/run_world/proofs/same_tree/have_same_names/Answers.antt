use Rattle.std.proofs.Common.{◌≡◌, ◌∙◌, sym, subst, slice_index_or}
use Rattle.std.proofs.lemmas.List.{take_more_same}
use Rattle.run_rules.specs.declared.event.DepthName.{DepthName}
use Rattle.run_world.proofs.same_tree.have_same_names.Goals as goal

pub loop-place-preserved : goal.loop-place-preserved
loop-place-preserved c =
    let x : DepthName = c.index-one-place.result in
    let alike = c.are_alike.ensures c.if-not-are_alike.false in
    take_more_same c.args.one.now c.args.other.now c.loop-place.place x c.loop-place-test.true (rw (← c.if-one-other.false) c.loop-place-test.true) c.loop-place.invariant
    (sym c.index-one-place.is ∙ subst (λ (y : DepthName). y ≡ slice_index_or c.args.other.now c.loop-place.place y) (sym alike) c.index-other-place.is)
