use Rattle.std.proofs.Common.{◌≡◌, ℕ, length}
use Rattle.plain_rows.specs.Styles.{lists_of, style_at}
use Rattle.plain_rows.proofs.styles.reach.Given as goal

abbrev pub invariant-loop-more : goal.invariant-loop-more
invariant-loop-more l = record { size : length l.lists.items ≡ l._more; same : (k a : ℕ) → style_at (lists_of l.lists.items) k a ≡ style_at (lists_of l.initial.lists.items) k a }
