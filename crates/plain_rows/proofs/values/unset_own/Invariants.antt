use Rattle.std.proofs.Common.{◌≡◌, ◌==◌, ℕ, cond, take, slice_index_or}
use Rattle.std.specs.List.{list_any}
use Rattle.plain_rows.proofs.values.unset_own.Given as goal

abbrev pub invariant-loop-line : goal.invariant-loop-line
invariant-loop-line l = (a : ℕ) → slice_index_or l.values.items a 0
    ≡ cond (list_any (λ line. line.attach == a) (take l.line-index l.own)) (slice_index_or l.everywhere.items a 0) (slice_index_or l.initial.values.items a 0)
