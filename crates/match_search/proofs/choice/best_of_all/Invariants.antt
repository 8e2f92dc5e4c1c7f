use Rattle.run_rules.proofs.Winner.{IsBest}
use Rattle.run_rules.specs.Suits.{worth}
use Rattle.match_search.specs.Best.{may_take}
use Rattle.match_search.proofs.choice.best_of_all.Given as goal

abbrev pub invariant-loop-row : goal.invariant-loop-row
invariant-loop-row l = IsBest (may_take l.among.tables.now l.among.machine.now l.among.live.now l.at.parent l.at.place l.at.spot) (λ q. worth l.among.tables.now l.among.machine.now q l.at.spot) l.row l.best
