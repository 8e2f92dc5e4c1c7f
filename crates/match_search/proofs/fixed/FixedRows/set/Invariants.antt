use Rattle.std.proofs.Common.{take}
use Rattle.match_search.proofs.FixedLaws.{AreSet}
use Rattle.match_search.proofs.fixed.FixedRows.set.Given as goal

abbrev pub invariant-loop-row : goal.invariant-loop-row
invariant-loop-row l = AreSet l.tables.rows l.initial.rows l.rows (take l.row-index l.list) l.of.device l.of.unit l.live
