use Rattle.std.proofs.Common.{◌<◌, length}
use Rattle.std.specs.Option.{option_map_or}
use Rattle.std.proofs.Common.{[], ◌∷◌}
use Rattle.file_select.proofs.RowLemmas.{back_all, front_all}
use Rattle.file_select.proofs.MarkLemmas.{adds_both, adds_to, all_size}
use Rattle.file_select.proofs.marks.mark_device.Goals as goal

pub mark_own-requires : goal.mark_own-requires
mark_own-requires c = front_all (λ a. a < length c.args.marks.now) _ c.args.device.now.needs c.requires

pub mark_all-requires : goal.mark_all-requires
mark_all-requires c =
    all_size _ _ c.items.result.now c.args.device.now.needs c.mark_own.ensures.size c.items.ensures
    (back_all (λ a. a < length c.args.marks.now) (option_map_or (λ a. a ∷ []) c.args.device.now.own []) c.args.device.now.needs c.requires)

pub returns : goal.returns
returns c = adds_both _ _ _ _ _ c.mark_own.ensures (adds_to _ _ c.items.result.now c.args.device.now.needs c.items.ensures c.mark_all.ensures)
