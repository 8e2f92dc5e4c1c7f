use Rattle.std.proofs.Common.{Option, length, refl, subst}
use Rattle.std.specs.Prelude.{IfSome}
use Rattle.cf_names.specs.Spots.{AreSpots, all_spots}
use Rattle.cf_names.specs.declared.spots.Spots.{Spots}
use Rattle.cf_names.proofs.SpotLemmas.{spots_attached}
use Rattle.cf_names.proofs.spots.note_more.Goals as goal

pub returns-in_ok-add_attach-in-Some : goal.returns-in_ok-add_attach-in-Some
returns-in_ok-add_attach-in-Some c =
    let before : AreSpots c.in-Some.spots (all_spots c.args.attaches.now) =
    subst (λ (o : Option Spots). IfSome o (λ spots. AreSpots spots (all_spots c.args.attaches.now))) c.in-Some.is c.requires in
    spots_attached c.args.attaches.now c.args.attach.now (length c.args.attaches.now) c.add_attach.new.self refl (c.in_ok-add_attach-in-Some.ensures (all_spots c.args.attaches.now) before)
