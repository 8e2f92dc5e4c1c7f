use Rattle.std.proofs.Common.{◌-◌}
use Rattle.std.specs.Prelude.{map, codes}
use Rattle.config_rules.specs.Listing.{option_lines, rest_lines, item_line, file_system_line, warning_line}
use Rattle.ioconf_text.proofs.SeekLemmas.{in_first, in_second, line_of, line_from, read_at, past_by, past_from, no_line, count_lines, count_both}
use Rattle.ioconf_text.proofs.entry.end_at.Goals as goal

pub returns-in-len1-up : goal.returns-in-len1-up
returns-in-len1-up c =
    let t = c.args.tables.now in
    in_first (option_lines t) (rest_lines t) _ _
    (in_first (map (item_line (codes "options")) t.options) (map (item_line (codes "makeoptions")) t.makeoptions) _ _
    (line_from (item_line (codes "options")) t.options c.from.result.now c.args.n c.item-item.result c.from.ensures.items c.in-len1-up.len_at_least c.item-item.is))

pub returns-in-len1-up-from : goal.returns-in-len1-up-from
returns-in-len1-up-from c =
    let t = c.args.tables.now in
    let n = c.args.n - c.len.result in
    let past_options = past_from t.options c.from.result.now c.args.n c.len.result c.from.ensures.some c.in_default.len_below c.len.ensures in
    in_first (option_lines t) (rest_lines t) _ _
    (in_second (map (item_line (codes "options")) t.options) (map (item_line (codes "makeoptions")) t.makeoptions) _ _ _ (count_lines (item_line (codes "options")) t.options _ _ past_options)
    (line_from (item_line (codes "makeoptions")) t.makeoptions c.from-2.result.now n c.item-item-2.result c.from-2.ensures.items c.in-len1-up-from.len_at_least c.item-item-2.is))

pub returns-in-Some : goal.returns-in-Some
returns-in-Some c =
    let t = c.args.tables.now in
    let n = c.args.n - c.len.result in
    let m = n - c.len-2.result in
    let found = c.in-Some.ensures.lookup in
    let past_options = past_from t.options c.from.result.now c.args.n c.len.result c.from.ensures.some c.in_default.len_below c.len.ensures in
    let past_makeoptions = past_from t.makeoptions c.from-2.result.now n c.len-2.result c.from-2.ensures.some c.in_default-from.len_below c.len-2.ensures in
    in_second (option_lines t) (rest_lines t) c.args.n m _
    (count_both (map (item_line (codes "options")) t.options) (map (item_line (codes "makeoptions")) t.makeoptions) _ _ _ (count_lines (item_line (codes "options")) t.options _ _ past_options)
    (count_lines (item_line (codes "makeoptions")) t.makeoptions _ _ past_makeoptions))
    (in_first (map file_system_line t.file_systems) (map warning_line t.warnings) _ _
    (line_of file_system_line t.file_systems m c.in-Some.name.now (read_at t.file_systems _ _ _ c.items.ensures found.3.0 found.1)))

pub returns-in-Some-get : goal.returns-in-Some-get
returns-in-Some-get c =
    let t = c.args.tables.now in
    let n = c.args.n - c.len.result in
    let m = n - c.len-2.result in
    let found = c.in-Some-get.ensures.lookup in
    let past_options = past_from t.options c.from.result.now c.args.n c.len.result c.from.ensures.some c.in_default.len_below c.len.ensures in
    let past_makeoptions = past_from t.makeoptions c.from-2.result.now n c.len-2.result c.from-2.ensures.some c.in_default-from.len_below c.len-2.ensures in
    let past_systems = past_by t.file_systems c.items.result.now m c.len-3.result c.items.ensures c.in_default-get.ensures.lookup.3 c.len-3.ensures in
    in_second (option_lines t) (rest_lines t) c.args.n m _
    (count_both (map (item_line (codes "options")) t.options) (map (item_line (codes "makeoptions")) t.makeoptions) _ _ _ (count_lines (item_line (codes "options")) t.options _ _ past_options)
    (count_lines (item_line (codes "makeoptions")) t.makeoptions _ _ past_makeoptions))
    (in_second (map file_system_line t.file_systems) (map warning_line t.warnings) _ _ _ (count_lines file_system_line t.file_systems _ _ past_systems)
    (line_of warning_line t.warnings (m - c.len-3.result) c.in-Some-get.warning.now (read_at t.warnings _ _ _ c.items-2.ensures found.3.0 found.1)))

pub returns-in-None : goal.returns-in-None
returns-in-None c =
    let t = c.args.tables.now in
    let n = c.args.n - c.len.result in
    let m = n - c.len-2.result in
    let k = m - c.len-3.result in
    let past_options = past_from t.options c.from.result.now c.args.n c.len.result c.from.ensures.some c.in_default.len_below c.len.ensures in
    let past_makeoptions = past_from t.makeoptions c.from-2.result.now n c.len-2.result c.from-2.ensures.some c.in_default-from.len_below c.len-2.ensures in
    let past_systems = past_by t.file_systems c.items.result.now m c.len-3.result c.items.ensures c.in_default-get.ensures.lookup.3 c.len-3.ensures in
    in_second (option_lines t) (rest_lines t) c.args.n m _
    (count_both (map (item_line (codes "options")) t.options) (map (item_line (codes "makeoptions")) t.makeoptions) _ _ _ (count_lines (item_line (codes "options")) t.options _ _ past_options)
    (count_lines (item_line (codes "makeoptions")) t.makeoptions _ _ past_makeoptions))
    (in_second (map file_system_line t.file_systems) (map warning_line t.warnings) _ _ _ (count_lines file_system_line t.file_systems _ _ past_systems)
    (no_line warning_line t.warnings c.items-2.result.now k c.items-2.ensures c.in-None.ensures.lookup.3))
