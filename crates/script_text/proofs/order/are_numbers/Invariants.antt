use Rattle.std.proofs.Common.{◌≡◌, length, drop}
use Rattle.std.specs.Prelude.{filter, nat_lt}
use Rattle.std.specs.List.{list_all, slice_split}
use Rattle.config_rules.specs.Cut.{is_space}
use Rattle.config_rules.specs.ScriptText.{spells_number}
use Rattle.machine_text.specs.Words.{parted}
use Rattle.script_text.proofs.order.are_numbers.Given as goal

abbrev pub invariant-loop-part : goal.invariant-loop-part
invariant-loop-part l = record {
  iterator : (goal.iterator-loop-part).can_next l.part-iterator × (goal.iterator-loop-part).is_finite l.part-iterator;
  left : list_all spells_number (filter (λ w. nat_lt 0 (length w)) (drop (length l.yielded) (slice_split is_space l.bytes))) ≡ list_all spells_number (parted l.bytes);
}
