use Rattle.std.proofs.Common.{◌∙◌, ap, find}
use Rattle.match_search.specs.Index.{is_open_to}
use Rattle.match_search.proofs.BestLaws.{row_wins}
use Rattle.match_search.proofs.LeaderLaws.{open_even}
use Rattle.match_search.proofs.choice.winner.Goals as goal

pub returns : goal.returns
returns c = λ s devices tables machine marks.
    (let passes = is_open_to c.args.among.now.tables.now c.args.among.now.live.now c.args.at.parent in
    row_wins c.args.among.now.tables.now c.args.among.now.machine.now c.args.among.now.live.now c.args.at.parent c.args.at.place c.args.at.spot c.best_among.result
    (c.best_among.ensures c.args.index.now c.requires.index
    (ap (find passes) c.rows.ensures ∙ c.requires.leaders c.args.at.spot passes (open_even c.args.among.now.tables.now s devices c.args.at.parent c.args.among.now.live.now tables marks)))
    s devices tables machine marks)
