use Rattle.std.proofs.Common.{◌≡◌, length, map}
use Rattle.config_rules.specs.Fault.{repeats}
use Rattle.cf_declare.proofs.fault.repeats.Given as goal

abbrev pub invariant-loop-first : goal.invariant-loop-first
invariant-loop-first l = repeats (map (λ x. x.name) l.left) ≡ repeats (map (λ x. x.name) l.locators)

abbrev pub decreases-loop-first : goal.decreases-loop-first
decreases-loop-first l = length l.left
