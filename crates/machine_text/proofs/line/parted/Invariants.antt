use Rattle.std.proofs.Common.{◌≡◌, ◌++◌, length, drop}
use Rattle.std.specs.Prelude.{filter, nat_lt}
use Rattle.std.specs.List.{slice_split}
use Rattle.config_rules.specs.Cut.{is_space}
use Rattle.machine_text.specs.Words.{parted}
use Rattle.machine_text.proofs.line.parted.Given as goal

abbrev pub invariant-loop-word : goal.invariant-loop-word
invariant-loop-word l = record {
  iterator : (goal.iterator-loop-word).can_next l.word-iterator × (goal.iterator-loop-word).is_finite l.word-iterator;
  so_far : l.words ++ filter (λ w. nat_lt 0 (length w)) (drop (length l.yielded) (slice_split is_space l.bytes)) ≡ parted l.bytes;
}
