use Rattle.std.proofs.Common.{◌-◌}
use Rattle.std.specs.List.{enumerate_from}
use Rattle.std.specs.Prelude.{map}
use Rattle.config_rules.specs.Listing.{instance_lines, end_lines, row_line, pseudo_line}
use Rattle.ioconf_text.proofs.SeekLemmas.{in_first, in_second, line_of, numbered_line_of, read_at, past_by, count_lines, count_numbered, count_both}
use Rattle.ioconf_text.proofs.entry.tail_at.Goals as goal

pub returns-in-Some : goal.returns-in-Some
returns-in-Some c =
    let t = c.args.tables.now in
    let found = c.in-Some.ensures.lookup in
    in_first (instance_lines t) (end_lines t) _ _
    (in_first (map (row_line t) (enumerate_from 0 t.rows)) (map pseudo_line t.pseudos) _ _
    (numbered_line_of (row_line t) t.rows c.args.n c.in-Some.row.now (read_at t.rows _ _ _ c.items.ensures found.3.0 found.1)))

pub returns-in-Some-get : goal.returns-in-Some-get
returns-in-Some-get c =
    let t = c.args.tables.now in
    let found = c.in-Some-get.ensures.lookup in
    let past_rows = past_by t.rows c.items.result.now c.args.n c.len.result c.items.ensures c.in_default.ensures.lookup.3 c.len.ensures in
    in_first (instance_lines t) (end_lines t) _ _
    (in_second (map (row_line t) (enumerate_from 0 t.rows)) (map pseudo_line t.pseudos) _ _ _ (count_numbered (row_line t) t.rows _ _ past_rows)
    (line_of pseudo_line t.pseudos (c.args.n - c.len.result) c.in-Some-get.pseudo.now (read_at t.pseudos _ _ _ c.items-2.ensures found.3.0 found.1)))

pub returns : goal.returns
returns c =
    let t = c.args.tables.now in
    let n = c.args.n - c.len.result in
    let past_rows = past_by t.rows c.items.result.now c.args.n c.len.result c.items.ensures c.in_default.ensures.lookup.3 c.len.ensures in
    let past_pseudos = past_by t.pseudos c.items-2.result.now n c.len-2.result c.items-2.ensures c.in_default-get.ensures.lookup.3 c.len-2.ensures in
    in_second (instance_lines t) (end_lines t) c.args.n (n - c.len-2.result) _
    (count_both (map (row_line t) (enumerate_from 0 t.rows)) (map pseudo_line t.pseudos) _ _ _ (count_numbered (row_line t) t.rows _ _ past_rows)
    (count_lines pseudo_line t.pseudos _ _ past_pseudos)) c.end_at.ensures
