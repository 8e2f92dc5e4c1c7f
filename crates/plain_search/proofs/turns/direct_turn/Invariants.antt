use Rattle.std.proofs.Common.{◌≡◌, ℕ, ◌<◌, ◌&&◌, false}
use Rattle.run_rules.specs.Search.{is_child}
use Rattle.plain_search.specs.Buses.{takes, turn_on}
use Rattle.plain_search.proofs.turns.direct_turn.Given as goal

-- no earlier spot has the turn
abbrev pub invariant-loop-spot : goal.invariant-loop-spot
invariant-loop-spot l = (x : ℕ) → x < l.spot → (is_child l.rules.machine l.parent l.bus.place x && takes l.rules l.plain l.scan (turn_on l.bus 0 x)) ≡ false
