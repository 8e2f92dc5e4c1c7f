use Rattle.run_rules.proofs.Climbs.{IsClimbed}
use Rattle.plain_choice.proofs.under.follow.Given as goal

abbrev pub invariant-loop-level : goal.invariant-loop-level
invariant-loop-level l = IsClimbed l.live.devices l.target l.serial l._level l.current
