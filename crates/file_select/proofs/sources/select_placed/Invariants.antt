use Rattle.std.proofs.Common.{take}
use Rattle.config_rules.specs.Select.{has_name}
use Rattle.file_rules.specs.Sources.{SelectsIn}
use Rattle.file_select.proofs.sources.select_placed.Given as goal

abbrev pub invariant-loop-statement : goal.invariant-loop-statement
invariant-loop-statement l = SelectsIn (has_name l.names) (take l.statement-index l.placed) l.selection
