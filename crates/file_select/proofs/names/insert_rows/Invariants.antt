use Rattle.std.proofs.Common.{◌≡◌, take}
use Rattle.std.specs.Prelude.{flat_map}
use Rattle.std.specs.List.{All}
use Rattle.file_rules.specs.Chosen.{row_names}
use Rattle.file_select.specs.Texts.{IsShort, with_texts}
use Rattle.file_select.proofs.names.insert_rows.Given as goal

abbrev pub invariant-loop-row : goal.invariant-loop-row
invariant-loop-row l = record {
  names : l.names ≡ with_texts l.initial.names (flat_map (row_names l.tables) (take l.row-index l.tables.rows));
  short : All IsShort l.initial.names → All IsShort l.names;
}
