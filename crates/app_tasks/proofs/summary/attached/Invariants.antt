use Rattle.std.proofs.Common.{◌≡◌, ◌≤◌, length, take, count_by}
use Rattle.app_tasks.specs.Summary.{attaches}
use Rattle.app_tasks.proofs.summary.attached.Given as goal

-- the events before this one were counted
abbrev pub invariant-loop-place : goal.invariant-loop-place
invariant-loop-place l = record {
  within : l.place ≤ length l.board.events;
  counted : l.count ≡ count_by attaches (take l.place l.board.events);
  few : l.count ≤ l.place;
}
