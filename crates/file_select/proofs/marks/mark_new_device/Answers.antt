use Rattle.std.proofs.Common.{◌<◌, [], arith, length, List, refl, subst}
use Rattle.std.specs.Prelude.{flat_map}
use Rattle.std.specs.List.{All}
use Rattle.cf_types.specs.Offers.{named_by}
use Rattle.cf_types.specs.declared.tables.Device.{Device}
use Rattle.file_rules.specs.Chosen.{device_in}
use Rattle.file_select.proofs.RowLemmas.{front_all}
use Rattle.file_select.proofs.SeenLemmas.{adds_again, adds_there, mark_read, seen_one}
use Rattle.file_select.proofs.marks.mark_new_device.Goals as goal

pub returns-then-index-clause-marks : goal.returns-then-index-clause-marks
returns-then-index-clause-marks c =
    adds_again c.args.marks.now _
    (λ a k. c.requires.seen.marked c.args.row.now.device a (mark_read c.args.seen.now.items c.args.row.now.device c.index.result.now (omega (arith, c.requires.device, c.requires.seen.size)) c.index.ensures c.if-index.true) k)

pub mark_device-requires : goal.mark_device-requires
mark_device-requires c =
    front_all (λ a. a < length c.args.marks.now) (named_by c.device_of.result.now) [] (subst (λ (ds : List Device). All (λ a. a < length c.args.marks.now) (flat_map named_by ds)) c.device_of.ensures c.requires.within)

pub returns-clause-marks : goal.returns-clause-marks
returns-clause-marks c = adds_there named_by (device_in c.args.devices.now c.args.row.now) c.device_of.result.now c.args.marks.now c.mark_device.new.marks (named_by c.device_of.result.now) c.device_of.ensures refl c.mark_device.ensures

pub returns-clause-seen : goal.returns-clause-seen
returns-clause-seen c =
    seen_one named_by c.args.devices.now c.args.seen.now.items _ c.args.marks.now c.mark_device.new.marks c.args.row.now.device refl c.requires.seen
    (adds_there named_by (device_in c.args.devices.now c.args.row.now) c.device_of.result.now c.args.marks.now c.mark_device.new.marks (named_by c.device_of.result.now) c.device_of.ensures refl c.mark_device.ensures)
