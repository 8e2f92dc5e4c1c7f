use Rattle.std.proofs.Common.{◌≡◌, ◌+◌, ◌++◌, length, drop}
use Rattle.cf_types.specs.Lines.{lines_of}
use Rattle.config_rules.specs.ScriptText.{bad_turns}
use Rattle.config_rules.proofs.ScriptLaws.{bad_turns_from}
use Rattle.script_text.proofs.OrderLemmas.{turns_in}
use Rattle.script_text.proofs.order.read_order.Given as goal

abbrev pub invariant-loop-line : goal.invariant-loop-line
invariant-loop-line l = record {
  iterator : (goal.iterator-loop-line).can_next l.line-iterator × (goal.iterator-loop-line).is_finite l.line-iterator;
  bad : bad_turns_from l.callers l.number (drop (length l.yielded) (lines_of l.text)) ≡ bad_turns l.callers l.text;
  so_far : l.turns ++ turns_in (drop (length l.yielded) (lines_of l.text)) ≡ turns_in (lines_of l.text);
  count : l.number ≡ length l.yielded + 1;
}
