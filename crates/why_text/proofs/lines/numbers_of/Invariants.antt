use Rattle.std.proofs.Common.{◌≡◌, map, take}
use Rattle.why_text.proofs.lines.numbers_of.Given as goal

abbrev pub invariant-loop-told : goal.invariant-loop-told
invariant-loop-told l = l.numbers.items ≡ map (λ it. it.row) (take l.told-index l.rows)
