use Rattle.std.proofs.Common.{◌≡◌, length, arith}
use Rattle.run_rules.proofs.Winner.{winner_is}
use Rattle.match_reasons.specs.Searches.{parent_by}
use Rattle.plain_world.proofs.RulesLaws.{rows_are}
use Rattle.match_reasons.proofs.told.winner.Goals as goal

pub returns : goal.returns
returns c =
    let s = c.args.rules.now in
    let end : c.loop-row.row ≡ length c.args.rules.now.tables.rows = omega (arith, rows_are c.rules.inside c.args.rules.now c.rules.view_is) in
    winner_is s c.args.live.now.devices (parent_by s c.args.search.parent) c.args.search.place c.args.search.spot c.loop-row.best (rw end at c.loop-row.invariant)
