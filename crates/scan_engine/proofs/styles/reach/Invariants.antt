use Rattle.std.proofs.Common.{◌≡◌, ℕ, length}
use Rattle.scan_engine.specs.Styled.{style_in}
use Rattle.scan_engine.proofs.styles.reach.Given as goal

abbrev pub invariant-loop-attach : goal.invariant-loop-attach
invariant-loop-attach l = (length l.lists.items ≡ l._attach) × ((a i : ℕ) → style_in l.lists.items a i ≡ style_in l.initial.lists.items a i)
