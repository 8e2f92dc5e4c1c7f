use Rattle.std.proofs.Common.{map}
use Rattle.plain_rows.proofs.AlikeLaws.{all_of}
use Rattle.plain_rows.proofs.CandidateLaws.{sorted_first}
use Rattle.plain_rows.proofs.suited.best_first.Goals as goal

pub returns : goal.returns
returns c =
    let s = c.args.sought.now in
    all_of s.tables.now s.machine.now s.place s.spot (map (λ c. c.row) c.sort.new.self.items) c.rows_of.result
    (sorted_first s c.args.rows.now c.in_ok-list.list.items c.sort.new.self.items c.requires.all c.in_ok-list.ensures c.in_ok-sort.ensures.permutation c.in_ok-sort.ensures.sorted)
    c.rows_of.ensures
