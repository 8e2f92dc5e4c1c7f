use Rattle.run_rules.proofs.Climbs.{IsClimbed}
use Rattle.pmf_order.proofs.under.walk.Given as goal

abbrev pub invariant-loop-level : goal.invariant-loop-level
invariant-loop-level l = IsClimbed l.tree.live l.target l.serial l._level l.current
