use Rattle.std.proofs.Common.{take}
use Rattle.cf_names.specs.Spots.{all_spots}
use Rattle.cf_names.proofs.SpotLemmas.{spots_taken}
use Rattle.cf_names.proofs.spots.Spots.of.Goals as goal

pub loop-number-preserved : goal.loop-number-preserved
loop-number-preserved c =
    spots_taken c.args.attaches.now c.loop-number.number c.index-attaches-number.result c.add_attach.new.self c.loop-number-test.true c.index-attaches-number.is
    (c.in_ok-add_attach.ensures (all_spots (take c.loop-number.number c.args.attaches.now)) c.loop-number.invariant)
