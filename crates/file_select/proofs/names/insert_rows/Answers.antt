use Rattle.std.proofs.Common.{rules}
use Rattle.file_rules.specs.Chosen.{row_names}
use Rattle.file_select.proofs.TextLemmas.{inserted_piece}
use Rattle.file_select.proofs.names.insert_rows.Goals as goal

pub loop-row-preserved : goal.loop-row-preserved
loop-row-preserved c = record {
  names = inserted_piece (row_names c.args.tables.now) c.args.tables.now.rows c.loop-row.row-index c.row-item.result c.args.names.now c.loop-row.names c.insert_row.new.names (search rules) (search rules) c.loop-row.invariant.names c.in_ok-insert_row.ensures.names;
  short = λ h. c.in_ok-insert_row.ensures.short (c.loop-row.invariant.short h);
}
