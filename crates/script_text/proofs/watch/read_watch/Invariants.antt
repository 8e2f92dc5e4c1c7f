use Rattle.std.proofs.Common.{[], ◌≡◌, ◌+◌, ◌++◌, All, length, drop}
use Rattle.cf_types.specs.Lines.{lines_of}
use Rattle.script_text.specs.WatchText.{FormedWatchLine, lines_said, watch_sayings}
use Rattle.script_text.proofs.WatchLemmas.{bad_after, said_from}
use Rattle.script_text.proofs.watch.read_watch.Given as goal

abbrev pub invariant-loop-line : goal.invariant-loop-line
invariant-loop-line l = record {
  iterator : (goal.iterator-loop-line).can_next l.line-iterator × (goal.iterator-loop-line).is_finite l.line-iterator;
  bad : bad_after l.lines (said_from l.callers l.number (drop (length l.yielded) (lines_of l.text))) ≡ bad_after [] (watch_sayings l.callers l.text);
  so_far : l.lines ++ lines_said (said_from l.callers l.number (drop (length l.yielded) (lines_of l.text))) ≡ lines_said (watch_sayings l.callers l.text);
  count : l.number ≡ length l.yielded + 1;
  formed : All (FormedWatchLine l.callers) l.lines;
}
