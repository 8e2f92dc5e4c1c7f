use Rattle.std.proofs.Common.{◌≡◌, ℕ, take}
use Rattle.plain_rows.specs.Styles.{lists_of, style_at, style_of_lines}
use Rattle.plain_rows.proofs.styles.Styles.make.Given as goal

abbrev pub invariant-loop-line : goal.invariant-loop-line
invariant-loop-line l = (k a : ℕ) → style_at (lists_of l.lists.items) k a ≡ style_of_lines (take l.line-index l.lines) k a
