use Rattle.std.proofs.Common.{◌≡◌, drop, find}
use Rattle.live_tables.proofs.Dooms.{is_hindering}
use Rattle.live_tables.proofs.live_tables.LiveTables.hindering.Given as goal

abbrev pub invariant-loop-at : goal.invariant-loop-at
invariant-loop-at l = find (is_hindering l.fn.self l.group) (drop l.at l.fn.self.world.live) ≡ find (is_hindering l.fn.self l.group) l.fn.self.world.live
