use Rattle.std.proofs.Common.{◌∙◌, List, ap, sym}
use Rattle.std.specs.Prelude.{flat_map}
use Rattle.cf_types.specs.Offers.{named_by}
use Rattle.cf_types.specs.declared.tables.Attach.{Attach}
use Rattle.file_rules.specs.Chosen.{attach_in, device_in}
use Rattle.file_select.proofs.MarkLemmas.{adds_both, adds_to}
use Rattle.file_select.proofs.RowLemmas.{row_attach_within, row_device_within}
use Rattle.file_select.proofs.SeenLemmas.{seen_in, seen_more}
use Rattle.file_select.proofs.marks.mark_row.Goals as goal

pub mark_new_device-requires-clause-within : goal.mark_new_device-requires-clause-within
mark_new_device-requires-clause-within c = row_device_within c.args.tables.now c.requires.formed c.args.row.now c.items.result.now _ c.requires.room c.items.ensures

pub mark_new_device-requires-clause-seen : goal.mark_new_device-requires-clause-seen
mark_new_device-requires-clause-seen c = seen_in named_by c.args.tables.now.devices c.items.result.now _ c.args.marks.now (sym c.items.ensures) c.requires.seen.devices

pub mark_new_attach-requires-clause-within : goal.mark_new_attach-requires-clause-within
mark_new_attach-requires-clause-within c =
    row_attach_within c.args.tables.now c.requires.formed c.args.row.now c.items-2.result.now _ (c.mark_new_device.ensures.marks.size ∙ c.requires.room) c.items-2.ensures

pub mark_new_attach-requires-clause-seen : goal.mark_new_attach-requires-clause-seen
mark_new_attach-requires-clause-seen c =
    seen_in (λ (x : Attach). x.needs) c.args.tables.now.attaches c.items-2.result.now _ c.mark_new_device.new.marks (sym c.items-2.ensures)
    (seen_more (λ (x : Attach). x.needs) c.args.tables.now.attaches _ c.args.marks.now c.mark_new_device.new.marks _ c.requires.seen.attaches c.mark_new_device.ensures.marks)

pub returns-clause-marks : goal.returns-clause-marks
returns-clause-marks c =
    adds_both c.args.marks.now c.mark_new_device.new.marks c.mark_new_attach.new.marks _ _
    (adds_to _ _ _ _ (ap (λ ds. flat_map named_by (device_in ds c.args.row.now)) c.items.ensures) c.mark_new_device.ensures.marks)
    (adds_to _ _ _ _ (ap (λ (xs : List Attach). flat_map (λ (x : Attach). x.needs) (attach_in xs c.args.row.now)) c.items-2.ensures) c.mark_new_attach.ensures.marks)

pub returns-clause-seen : goal.returns-clause-seen
returns-clause-seen c = record {
  devices = seen_more named_by c.args.tables.now.devices _ c.mark_new_device.new.marks c.mark_new_attach.new.marks _
      (seen_in named_by c.items.result.now c.args.tables.now.devices _ c.mark_new_device.new.marks c.items.ensures c.mark_new_device.ensures.seen) c.mark_new_attach.ensures.marks;
  attaches = seen_in (λ (x : Attach). x.needs) c.items-2.result.now c.args.tables.now.attaches _ c.mark_new_attach.new.marks c.items-2.ensures c.mark_new_attach.ensures.seen;
}
