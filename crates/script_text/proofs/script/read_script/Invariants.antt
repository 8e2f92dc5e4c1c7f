use Rattle.std.proofs.Common.{◌≡◌, ◌+◌, ◌++◌, length, drop}
use Rattle.cf_types.specs.Lines.{lines_of}
use Rattle.config_rules.specs.ScriptText.{bad_sayings, commands_in}
use Rattle.config_rules.proofs.ScriptLaws.{bad_said, commands_said, said_from}
use Rattle.script_text.proofs.script.read_script.Given as goal

abbrev pub invariant-loop-line : goal.invariant-loop-line
invariant-loop-line l = record {
  iterator : (goal.iterator-loop-line).can_next l.line-iterator × (goal.iterator-loop-line).is_finite l.line-iterator;
  bad : bad_said (length l.commands) (said_from l.number (drop (length l.yielded) (lines_of l.text))) ≡ bad_sayings l.text;
  so_far : l.commands ++ commands_said (said_from l.number (drop (length l.yielded) (lines_of l.text))) ≡ commands_in l.text;
  count : l.number ≡ length l.yielded + 1;
}
