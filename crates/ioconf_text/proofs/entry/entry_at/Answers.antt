use Rattle.std.proofs.Common.{ℕ, List, Some, ◌-◌, ◌∙◌, ap, sym}
use Rattle.std.specs.List.{enumerate_from}
use Rattle.std.specs.Prelude.{map}
use Rattle.config_rules.specs.Listing.{definition_lines, driver_lines, tail_lines, attr_line, device_line, device_text, attach_line}
use Rattle.attr_graph.specs.Graphs.{declared_by}
use Rattle.attr_graph.proofs.GraphLaws.{graph_interfaces}
use Rattle.ioconf_text.proofs.SeekLemmas.{in_first, in_second, line_of, numbered_line_of, read_at, past_by, count_lines, count_numbered, count_both}
use Rattle.ioconf_text.proofs.entry.entry_at.Goals as goal

pub returns-in-Some-get : goal.returns-in-Some-get
returns-in-Some-get c =
    let t = c.args.tables.now in
    let n = c.args.n - c.len.result in
    let found = c.in-Some-get.ensures.lookup in
    let past_attrs = past_by t.attrs c.items.result.now c.args.n c.len.result c.items.ensures c.in_default.ensures.lookup.3 c.len.ensures in
    let offers = c.interfaces.ensures ∙ graph_interfaces (declared_by t) c.args.graph.now c.requires.graph n in
    in_first (definition_lines t) (tail_lines t) _ _
    (in_second (map attr_line t.attrs) (driver_lines t) _ _ _ (count_lines attr_line t.attrs _ _ past_attrs)
    (in_first (map (device_line t) (enumerate_from 0 t.devices)) (map (attach_line t) t.attaches) _ _
    (numbered_line_of (device_line t) t.devices n c.in-Some-get.device.now (read_at t.devices _ _ _ c.items-2.ensures found.3.0 found.1))))
    ∙ ap (λ (offered : List ℕ). Some (device_text t c.in-Some-get.device.now offered)) (sym offers)

pub returns-in-Some-get-2 : goal.returns-in-Some-get-2
returns-in-Some-get-2 c =
    let t = c.args.tables.now in
    let n = c.args.n - c.len.result in
    let found = c.in-Some-get-2.ensures.lookup in
    let past_attrs = past_by t.attrs c.items.result.now c.args.n c.len.result c.items.ensures c.in_default.ensures.lookup.3 c.len.ensures in
    let past_devices = past_by t.devices c.items-2.result.now n c.len-2.result c.items-2.ensures c.in_default-get.ensures.lookup.3 c.len-2.ensures in
    in_first (definition_lines t) (tail_lines t) _ _
    (in_second (map attr_line t.attrs) (driver_lines t) _ _ _ (count_lines attr_line t.attrs _ _ past_attrs)
    (in_second (map (device_line t) (enumerate_from 0 t.devices)) (map (attach_line t) t.attaches) _ _ _ (count_numbered (device_line t) t.devices _ _ past_devices)
    (line_of (attach_line t) t.attaches (n - c.len-2.result) c.in-Some-get-2.attach.now (read_at t.attaches _ _ _ c.items-3.ensures found.3.0 found.1))))

pub returns : goal.returns
returns c =
    let t = c.args.tables.now in
    let n = c.args.n - c.len.result in
    let m = n - c.len-2.result in
    let past_attrs = past_by t.attrs c.items.result.now c.args.n c.len.result c.items.ensures c.in_default.ensures.lookup.3 c.len.ensures in
    let past_devices = past_by t.devices c.items-2.result.now n c.len-2.result c.items-2.ensures c.in_default-get.ensures.lookup.3 c.len-2.ensures in
    let past_attaches = past_by t.attaches c.items-3.result.now m c.len-3.result c.items-3.ensures c.in_default-get-2.ensures.lookup.3 c.len-3.ensures in
    in_second (definition_lines t) (tail_lines t) c.args.n (m - c.len-3.result) _
    (count_both (map attr_line t.attrs) (driver_lines t) _ _ _ (count_lines attr_line t.attrs _ _ past_attrs)
    (count_both (map (device_line t) (enumerate_from 0 t.devices)) (map (attach_line t) t.attaches) _ _ _ (count_numbered (device_line t) t.devices _ _ past_devices)
    (count_lines (attach_line t) t.attaches _ _ past_attaches))) c.tail_at.ensures
