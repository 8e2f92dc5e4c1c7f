use Rattle.std.proofs.Common.{List, All, ◌<◌, length, sym, subst}
use Rattle.cf_types.specs.declared.declared.Declared.{Declared}
use Rattle.cf_types.specs.declared.instance.Instance.{Instance}
use Rattle.attr_graph.specs.Graphs.{IsGraphOf}
use Rattle.cf_compile.proofs.KnownLaws.{devices_in_graph}
use Rattle.cf_compile.proofs.known.orphans_in.Goals as goal

pub split_by_root-requires : goal.split_by_root-requires
split_by_root-requires c =
    devices_in_graph c.args.selection.declarations c.into_parts-declared.result.1 c.items.result.now
    (subst (λ (d : Declared). IsGraphOf d c.into_parts-declared.result.1) c.into_parts-declared.ensures.lists c.into_parts-declared.ensures.graph)
    (subst (λ (is : List Instance). All (λ x. x.joined.device < length c.args.selection.declarations.devices) is) (sym c.items.ensures) c.requires)
