use Rattle.std.proofs.Common.{◌≡◌, ℕ, length}
use Rattle.plain_rows.specs.Lists.{list_at}
use Rattle.plain_rows.proofs.lists.reach.Given as goal

abbrev pub invariant-loop-more : goal.invariant-loop-more
invariant-loop-more l = record { size : length l.lists.items ≡ l._more; same : (k : ℕ) → list_at l.lists.items k ≡ list_at l.initial.lists.items k }
