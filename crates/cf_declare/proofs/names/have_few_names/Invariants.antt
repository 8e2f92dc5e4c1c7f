use Rattle.std.proofs.Common.{◌≡◌, ◌+◌, take}
use Rattle.std.specs.List.{sum_by}
use Rattle.cf_declare.specs.Names.{name_count}
use Rattle.cf_declare.proofs.names.have_few_names.Given as goal

abbrev pub invariant-loop-statement : goal.invariant-loop-statement
invariant-loop-statement l = l.left + sum_by (λ p. name_count p.stmt) (take l.statement-index l.placed) ≡ 4096
