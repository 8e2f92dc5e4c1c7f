use Rattle.std.proofs.Common.{◌≡◌, length, arith}
use Rattle.match_search.proofs.BestLaws.{row_is}
use Rattle.match_search.proofs.choice.best_of_all.Goals as goal

pub returns : goal.returns
returns c =
    let end : c.loop-row.row ≡ length c.args.among.now.tables.now.rows = omega arith in
    row_is c.args.among.now.tables.now c.args.among.now.machine.now c.args.among.now.live.now c.args.at.parent c.args.at.place c.args.at.spot c.loop-row.best (rw end at c.loop-row.invariant)
