use Rattle.std.proofs.Common.{◌<◌, ◌∙◌, List, length, ap, sym, subst, arith, All, ℕ}
use Rattle.std.proofs.lemmas.List.{length-map}
use Rattle.cf_types.specs.Offers.{interfaces_of}
use Rattle.attr_graph.specs.declared.entry.AttrEntry.{AttrEntry}
use Rattle.attr_graph.specs.declared.entry.DeviceEntry.{DeviceEntry}
use Rattle.attr_graph.specs.Reach.{KeptAttrs, KeptDevices, Shape, node_of, nodes_of}
use Rattle.attr_graph.proofs.KeptLemmas.{one_device}
use Rattle.attr_graph.proofs.graph.Graph.add_device.Goals as goal

pub invariant_of-self-2 : goal.invariant_of-self-2
invariant_of-self-2 c =
    let attrs = c.deref.result.now in
    let made = c.in-Ok.ensures.entry in
    let known : All (λ a. a < length attrs) c.in-Ok.entry.names =
    subst (λ (names : List ℕ). All (λ a. a < length attrs) names) (sym (made.0 ∙ c.in_ok-names.ensures))
    (λ k d p. omega (arith, c.requires.known k d p, ap (λ (s : Shape). length s.attrs) c.self.view_is, length-map c.self.inside.attrs.items node_of, ap length c.deref.ensures.value)) in
    let devices : KeptDevices attrs c.self.inside.devices.items =
    subst (λ (xs : List AttrEntry). KeptDevices xs c.self.inside.devices.items) (sym c.deref.ensures.value) c.self.invariant.1 in
    let more : KeptDevices attrs c.push.new.self.items =
    subst (λ (ds : List DeviceEntry). KeptDevices attrs ds) (sym c.in_ok-push.ensures.items)
    (one_device attrs c.self.inside.devices.items c.in-Ok.entry devices known (made.1 ∙ ap (interfaces_of (nodes_of attrs)) (sym made.0))) in (
      subst (λ (xs : List AttrEntry). KeptAttrs xs c.device_entry.new.marks.items) c.deref.ensures.value c.in-Ok.ensures.kept,
      subst (λ (xs : List AttrEntry). KeptDevices xs c.push.new.self.items) c.deref.ensures.value more,
    )
