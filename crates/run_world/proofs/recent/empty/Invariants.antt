use Rattle.std.proofs.Common.{◌≡◌, ◌≤◌, None}
use Rattle.std.specs.List.{AllByRecursion}
use Rattle.std.specs.Prelude.{vec_capacity, vec_len}
use Rattle.run_world.proofs.recent.empty.Given as goal

abbrev pub invariant-loop-place : goal.invariant-loop-place
invariant-loop-place g l = AllByRecursion (λ place. place ≡ None) l.kept.items × ((vec_len l.kept ≡ l._place) × (l.places ≤ vec_capacity l.kept))
