use Rattle.std.proofs.Common.{◌≡◌, ◌<◌, ◌≤◌, ℕ, true, false}
use Rattle.run_rules.specs.Search.{is_child}
use Rattle.next_deed.specs.Turns.{is_open_at}
use Rattle.next_deed.proofs.next_due.next_open.Given as goal

abbrev pub invariant-loop-spot : goal.invariant-loop-spot
invariant-loop-spot l = (x : ℕ) → l.from ≤ x → x < l.spot → is_child l.going.setup.machine l.scan.parent l.place x ≡ true → is_open_at l.going l.scan.filter.now x ≡ false
