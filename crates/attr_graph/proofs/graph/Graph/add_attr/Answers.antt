use Rattle.std.proofs.Common.{◌≡◌, ◌<◌, ◌∙◌, List, ◌++◌, ◌∷◌, [], length, ap, sym, subst, arith, All}
use Rattle.std.proofs.lemmas.List.{length-map}
use Rattle.cf_types.specs.Offers.{Node}
use Rattle.attr_graph.specs.declared.entry.AttrEntry.{AttrEntry}
use Rattle.attr_graph.specs.Reach.{KeptAttrs, KeptDevices, Shape, node_of}
use Rattle.attr_graph.proofs.KeptLemmas.{more_attrs, more_devices}
use Rattle.attr_graph.proofs.graph.Graph.add_attr.Goals as goal

pub invariant_of-self-2 : goal.invariant_of-self-2
invariant_of-self-2 c =
    let node : Node = record { iface = c.args.iface; needs = c.args.needs.now } in
    let attrs = c.deref.result.now in
    let known : All (λ a. a < length attrs) node.needs =
    λ k d p. omega (arith, c.requires.known k d p, ap (λ (s : Shape). length s.attrs) c.self.view_is, length-map c.self.inside.attrs.items node_of, ap length c.deref.ensures.value) in
    let made = c.in-Ok.ensures.entry in
    let devices : KeptDevices attrs c.self.inside.devices.items =
    subst (λ (xs : List AttrEntry). KeptDevices xs c.self.inside.devices.items) (sym c.deref.ensures.value) c.self.invariant.1 in
    let more : c.push.new.self.items ≡ attrs ++ c.in-Ok.entry ∷ [] =
    c.in_ok-push.ensures.items ∙ ap (λ (xs : List AttrEntry). xs ++ c.in-Ok.entry ∷ []) (sym c.deref.ensures.value) in (
      subst (λ (xs : List AttrEntry). KeptAttrs xs c.attr_entry.new.marks.items) (sym more) (more_attrs attrs _ c.in-Ok.entry node c.in-Ok.ensures.kept known made),
      subst (λ (xs : List AttrEntry). KeptDevices xs c.self.inside.devices.items) (sym more) (more_devices attrs _ c.in-Ok.entry node c.in-Ok.ensures.kept.earlier made.0 devices),
    )
