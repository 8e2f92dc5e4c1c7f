use Rattle.std.proofs.Common.{refl}
use Rattle.std.proofs.lemmas.List.{drop_all}
use Rattle.cf_rows.proofs.WarnLemmas.{merged_first, merged_step, merged_last}
use Rattle.cf_rows.proofs.idle.merged.Goals as goal

pub loop-place-init : goal.loop-place-init
loop-place-init c = λ insts are.
    merged_first c.args.files.now insts c.args.placed.now c.in_ok-made.made c.args.warned.now.instances.now c.args.warned.now.items.now c.args.warned.now.orphans.now c.in_ok-made.ensures c.requires.instances c.requires.items are

pub loop-place-preserved : goal.loop-place-preserved
loop-place-preserved c = λ insts are.
    let more = merged_step c.args.files.now insts c.args.placed.now c.loop-place.place c.index-placed-place.result c.loop-place.made c.push_front.new.out c.push_front-in-loop-place.new.out c.push_front-in-loop-place-2.new.out
    c.loop-place.instances.now c.loop-place.items.now c.loop-place.left.now _ _ _
    (c.loop-place.invariant insts are) c.loop-place-test.true c.index-placed-place.is refl refl refl
    c.in_ok-instances.ensures.pushed c.in_ok-items.ensures.pushed c.in_ok-left.ensures.pushed in
    rw (c.in_ok-instances.ensures.left, c.in_ok-items.ensures.left, c.in_ok-left.ensures.left) more

pub returns : goal.returns
returns c = λ insts are.
    merged_last c.args.files.now insts c.args.placed.now c.loop-place.place c.loop-place.made _ _ _ (c.loop-place.invariant insts are) (drop_all c.loop-place.place c.args.placed.now c.loop-place-test.false)
