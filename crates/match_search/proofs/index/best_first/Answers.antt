use Rattle.match_search.proofs.CandidateLaws.{best_first_ok}
use Rattle.match_search.proofs.index.best_first.Goals as goal

pub returns : goal.returns
returns c =
    best_first_ok c.args.sought.now c.in_ok-list.list.items c.sort.new.self.items c.rows_of.result
    c.in_ok-list.ensures c.in_ok-sort.ensures.permutation c.in_ok-sort.ensures.sorted c.rows_of.ensures
