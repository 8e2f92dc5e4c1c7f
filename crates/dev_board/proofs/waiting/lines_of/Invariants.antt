use Rattle.std.proofs.Common.{◌≡◌, ◌+◌, flat_map}
use Rattle.cf_types.specs.Numbers.{below}
use Rattle.wait_lines.specs.Waits.{lines_at}
use Rattle.dev_board.proofs.waiting.lines_of.Given as goal

abbrev pub invariant-loop-i : goal.invariant-loop-i
invariant-loop-i l = l.lines ≡ flat_map (λ i. lines_at l.going (i + 1)) (below l.i)
