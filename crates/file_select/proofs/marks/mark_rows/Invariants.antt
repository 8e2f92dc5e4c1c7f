use Rattle.std.proofs.Common.{take}
use Rattle.std.specs.Prelude.{flat_map}
use Rattle.file_rules.specs.Chosen.{row_attrs}
use Rattle.file_select.specs.Marks.{AddsMarks, HasSeen}
use Rattle.file_select.proofs.marks.mark_rows.Given as goal

abbrev pub invariant-loop-row : goal.invariant-loop-row
invariant-loop-row l = record {
  marks : AddsMarks l.initial.marks l.marks (flat_map (row_attrs l.tables) (take l.row-index l.tables.rows));
  seen : HasSeen l.tables l.marks l.seen;
}
