use Rattle.std.proofs.Common.{◌≡◌, ℕ, ◌<◌, ◌&&◌, not, nat_lt, false}
use Rattle.run_rules.specs.Search.{is_child}
use Rattle.scan_engine.proofs.spots.next_child.Given as goal

abbrev pub invariant-loop-spot : goal.invariant-loop-spot
invariant-loop-spot l = (x : ℕ) → x < l.spot → (is_child l.machine l.parent l.place x && not (nat_lt x l.from)) ≡ false
