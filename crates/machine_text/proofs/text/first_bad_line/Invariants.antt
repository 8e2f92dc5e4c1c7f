use Rattle.std.proofs.Common.{◌≡◌, ◌+◌, length, drop}
use Rattle.cf_types.specs.Lines.{lines_of}
use Rattle.config_rules.specs.MachineText.{bad_line}
use Rattle.machine_text.proofs.TextLemmas.{bad_from}
use Rattle.machine_text.proofs.text.first_bad_line.Given as goal

abbrev pub invariant-loop-line : goal.invariant-loop-line
invariant-loop-line l = record {
  iterator : (goal.iterator-loop-line).can_next l.line-iterator × (goal.iterator-loop-line).is_finite l.line-iterator;
  so_far : bad_from l.number (drop (length l.yielded) (lines_of l.text)) ≡ bad_line l.text;
  count : l.number ≡ length l.yielded + 1;
}
