use Rattle.std.proofs.Common.{ap, find}
use Rattle.match_search.specs.Index.{is_open_to}
use Rattle.match_search.proofs.BestLaws.{row_wins}
use Rattle.match_search.proofs.choice.best.Goals as goal

pub returns-clause-row : goal.returns-clause-row
returns-clause-row c = c.best_among.ensures c.args.index.now c.requires.index (ap (find (is_open_to c.args.tables.now c.args.live.now c.args.parent)) c.rows.ensures)

pub returns-clause-winner : goal.returns-clause-winner
returns-clause-winner c =
    row_wins c.args.tables.now c.args.machine.now c.args.live.now c.args.parent c.args.place c.args.spot c.best_among.result
    (c.best_among.ensures c.args.index.now c.requires.index (ap (find (is_open_to c.args.tables.now c.args.live.now c.args.parent)) c.rows.ensures))
