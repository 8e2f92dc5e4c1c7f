use Rattle.std.proofs.Common.{◌≡◌, ◌==◌, ◌+◌, drop}
use Rattle.std.specs.List.{prefix_len}
use Rattle.cf_rows.proofs.idle.front_count.Given as goal

abbrev pub invariant-loop-other : goal.invariant-loop-other
invariant-loop-other l = record {
  counted : l.count ≡ l.other-index;
  left : prefix_len (λ p. p == l.place) l.places ≡ l.count + prefix_len (λ p. p == l.place) (drop l.other-index l.places);
}
