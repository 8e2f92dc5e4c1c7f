use Rattle.std.proofs.Common.{◌≡◌, map, take}
use Rattle.config_rules.specs.Fault.{is_instance}
use Rattle.cf_select.proofs.standing.all_instances.Given as goal

abbrev pub invariant-loop-statement : goal.invariant-loop-statement
invariant-loop-statement l = l.kept.items ≡ map (λ p. is_instance p.stmt) (take l.statement-index l.placed)
