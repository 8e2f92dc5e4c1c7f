use Rattle.std.proofs.Common.{◌≡◌, ◌+◌, drop, length}
use Rattle.std.specs.List.{enumerate_from}
use Rattle.cf_types.specs.Lines.{lines_of}
use Rattle.live_rules.specs.PlanText.{FormedPlan, after_lines, plan_of}
use Rattle.live_tables.proofs.read.read_plan.Given as goal

abbrev pub invariant-loop-line : goal.invariant-loop-line
invariant-loop-line l = record {
  iterator : (goal.iterator-loop-line).can_next l.line-iterator × (goal.iterator-loop-line).is_finite l.line-iterator;
  rest : after_lines l.tables (enumerate_from l.number (drop (length l.yielded) (lines_of l.text))) l.plan ≡ plan_of l.tables l.text;
  formed : FormedPlan l.plan;
  count : l.number ≡ length l.yielded + 1;
}
