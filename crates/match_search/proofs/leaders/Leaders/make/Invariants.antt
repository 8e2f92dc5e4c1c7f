use Rattle.std.proofs.Common.{◌≡◌, length}
use Rattle.match_search.specs.Leaders.{AreLeadersIn}
use Rattle.match_search.proofs.leaders.Leaders.make.Given as goal

abbrev pub invariant-loop-spot : goal.invariant-loop-spot
invariant-loop-spot l = (length l.lists.items ≡ l.spot) × AreLeadersIn l.tables.rows l.index l.lists.items
