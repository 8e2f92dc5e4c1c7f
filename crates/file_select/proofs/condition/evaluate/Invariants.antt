use Rattle.std.proofs.Common.{◌≡◌, drop}
use Rattle.config_rules.specs.Select.{has_name}
use Rattle.file_select.specs.Steps.{run, start}
use Rattle.file_select.proofs.condition.evaluate.Given as goal

abbrev pub invariant-loop-piece : goal.invariant-loop-piece
invariant-loop-piece l = run (has_name l.names) (drop l.piece-index l.pieces) l.state ≡ run (has_name l.names) l.pieces start
