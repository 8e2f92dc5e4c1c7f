use Rattle.std.proofs.Common.{◌≡◌, ◌++◌, take}
use Rattle.live_rules.specs.Live.{tree_line}
use Rattle.told_names.proofs.WalkLaws.{told_among}
use Rattle.live_tables.proofs.live_tables.LiveTables.+push_below.Given as goal

abbrev pub decreases-push_below : goal.decreases-push_below
decreases-push_below l = l.levels

abbrev pub invariant-loop-device : goal.invariant-loop-device
invariant-loop-device l =
    l.lines ≡ l.initial.lines ++ told_among (tree_line l.fn.self.site l.fn.self.world) l.fn.self.world.live l.levels l.depth (take l.device-index l.children)
