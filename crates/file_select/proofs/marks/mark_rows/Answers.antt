use Rattle.std.proofs.Common.{◌≡◌, ◌<◌, get_or, length, rules, subst, sym}
use Rattle.cf_types.specs.declared.tables.Row.{Row}
use Rattle.file_rules.specs.Chosen.{row_attrs}
use Rattle.file_select.proofs.MarkLemmas.{adds_none, adds_piece}
use Rattle.file_select.proofs.RowLemmas.{attach_in_range}
use Rattle.file_select.proofs.marks.mark_rows.Goals as goal

pub mark_row-requires-clause-attach : goal.mark_row-requires-clause-attach
mark_row-requires-clause-attach c =
    let lt : c.loop-row.row-index < length c.args.tables.now.rows = search rules in
    let is : c.row-item.result ≡ get_or c.args.tables.now.rows c.loop-row.row-index c.row-item.result = search rules in
    let row : Row = get_or c.args.tables.now.rows c.loop-row.row-index c.row-item.result in
    let formed = c.requires.formed.rows c.loop-row.row-index c.row-item.result lt in
    subst (λ (r : Row). r.attach < length c.args.tables.now.attaches) (sym is) (attach_in_range c.args.tables.now.attaches row.attach row.device formed.attach_of_device)

pub loop-row-init : goal.loop-row-init
loop-row-init c = record { marks = adds_none c.args.marks.now; seen = c.in_ok-seen.ensures c.args.marks.now }

pub loop-row-preserved : goal.loop-row-preserved
loop-row-preserved c = record {
  marks = adds_piece (row_attrs c.args.tables.now) c.args.marks.now c.loop-row.marks c.mark_row.new.marks c.args.tables.now.rows c.loop-row.row-index c.row-item.result (search rules) (search rules) c.loop-row.invariant.marks c.mark_row.ensures.marks;
  seen = c.mark_row.ensures.seen;
}
