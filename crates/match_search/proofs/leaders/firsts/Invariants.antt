use Rattle.std.proofs.Common.{List, take}
use Rattle.cf_types.specs.declared.tables.Row.{Row}
use Rattle.match_search.specs.Leaders.{AreKinds, AreLeaders}
use Rattle.match_search.proofs.LeaderLaws.{AreNoted}
use Rattle.match_search.proofs.leaders.firsts.Given as goal

abbrev pub invariant-loop-row : goal.invariant-loop-row
invariant-loop-row l = (lines : List Row) → AreKinds lines l.kinds.items → AreLeaders lines (take l.row-index l.rows) l.list.items × AreNoted lines l.kinds.items l.seen.items l.list.items
