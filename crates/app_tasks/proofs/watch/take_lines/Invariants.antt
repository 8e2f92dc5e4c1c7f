use Rattle.std.proofs.Common.{take}
use Rattle.app_tasks.specs.Watching.{IsReady, TakesLines}
use Rattle.app_tasks.proofs.watch.take_lines.Given as goal

-- the lines before this one were done
abbrev pub invariant-loop-line : goal.invariant-loop-line
invariant-loop-line l = record {
  ready : IsReady l.initial.watch.board.world.setup l.watch;
  takes : TakesLines (take l.line-index l.lines) l.initial.watch l.watch;
}
