use Rattle.std.proofs.Common.{◌<◌, ◌∙◌, false, length, sym, arith}
use Rattle.std.proofs.lemmas.List.{get_or_default, length-set, take_all}
use Rattle.cf_select.proofs.StandingLemmas.{instances_set, instances_end}
use Rattle.cf_select.proofs.standing.keep_instances.Goals as goal

pub returns : goal.returns
returns c =
    sym (take_all c.loop-i.i c.loop-i.free.items (omega (arith, c.loop-i-test.false, c.loop-i.invariant.size)))
    ∙ instances_end c.args.placed.now c.loop-i.free.items _ _ c.loop-i.i c.loop-i-test.false c.loop-i.invariant.front

pub loop-i-preserved : goal.loop-i-preserved
loop-i-preserved c =
    let within : c.loop-i.i < length c.loop-i.free.items = omega (arith, c.loop-i-test.true, c.loop-i.invariant.size) in
    record {
      size = length-set c.loop-i.free.items c.loop-i.i _ ∙ c.loop-i.invariant.size;
      front = instances_set c.args.placed.now c.loop-i.free.items _ c.loop-i.i c.index-placed-i.result c.is_instance.result c.index.result.now
          c.loop-i-test.true c.loop-i.invariant.size c.index-placed-i.is c.is_instance.ensures
          (c.index.ensures ∙ get_or_default c.loop-i.free.items c.loop-i.i _ false within) c.loop-i.invariant.front;
    }
