use Rattle.std.proofs.Common.{◌≡◌, ◌++◌, length}
use Rattle.plain_world.proofs.caller.Caller.put_all_on_top.Given as goal

-- the frames that are left go before those that are there
abbrev pub invariant-loop-frame : goal.invariant-loop-frame
invariant-loop-frame l =
    (l.frames.items ++ l.self.stack ≡ l.initial.frames.items ++ l.initial.self.stack) × (l.self.over ≡ l.initial.self.over) × (l.self.doing ≡ l.initial.self.doing)

abbrev pub decreases-loop-frame : goal.decreases-loop-frame
decreases-loop-frame l = length l.frames.items
