use Rattle.std.proofs.Common.{◌≡◌, ◌++◌, drop, length, take}
use Rattle.config_rules.specs.Fault.{stmts_of}
use Rattle.cf_select.specs.Selected.{instances}
use Rattle.cf_select.proofs.standing.keep_instances.Given as goal

abbrev pub invariant-loop-i : goal.invariant-loop-i
invariant-loop-i l = record {
  size : length l.free.items ≡ length l.placed;
  front : take l.i l.free.items ++ instances (stmts_of (drop l.i l.placed)) (drop l.i l.free.items) ≡ instances (stmts_of l.placed) l.initial.free.items;
}
