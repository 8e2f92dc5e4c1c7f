use Rattle.run_rules.proofs.Winner.{IsBest}
use Rattle.run_rules.specs.Search.{is_candidate, value_of}
use Rattle.match_reasons.specs.Searches.{parent_by}
use Rattle.match_reasons.proofs.told.winner.Given as goal

abbrev pub invariant-loop-row : goal.invariant-loop-row
invariant-loop-row l =
    let s = l.rules in
    IsBest (is_candidate s l.live.devices (parent_by s l.search.parent) l.search.place l.search.spot) (λ q. value_of s q l.search.spot) l.row l.best
