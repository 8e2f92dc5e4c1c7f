use Rattle.std.proofs.Common.{map, take}
use Rattle.cf_names.specs.Hash.{Holds}
use Rattle.cf_declare.specs.Names.{declared_lines}
use Rattle.cf_declare.proofs.names.declared_key.Given as goal

abbrev pub invariant-loop-statement : goal.invariant-loop-statement
invariant-loop-statement l = Holds l.key (declared_lines (map (λ p. p.stmt) (take l.statement-index l.placed)))
