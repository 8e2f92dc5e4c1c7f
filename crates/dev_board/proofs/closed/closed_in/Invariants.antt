use Rattle.std.proofs.Common.{◌≡◌, ◌≤◌, take}
use Rattle.run_rules.specs.Counts.{ends_of}
use Rattle.dev_board.proofs.closed.closed_in.Given as goal

abbrev pub invariant-loop-event : goal.invariant-loop-event
invariant-loop-event l = (l.closed ≡ ends_of (take l.event-index l.events)) × (l.closed ≤ l.event-index)
