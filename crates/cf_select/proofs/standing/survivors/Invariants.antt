use Rattle.std.proofs.Common.{◌≡◌, ◌++◌, [], take, drop}
use Rattle.config_rules.specs.Fault.{stmts_of}
use Rattle.config_rules.specs.Meaning.{idle_insts}
use Rattle.cf_select.specs.Naming.{AreListed, AreShort, names_at}
use Rattle.cf_select.specs.Selected.{free}
use Rattle.cf_select.proofs.standing.survivors.Given as goal

abbrev pub invariant-loop-i : goal.invariant-loop-i
invariant-loop-i l = record {
  marks : l.free.items ≡ free (stmts_of (take l.i l.placed));
  short : AreShort l.lists l.free.items;
  listed : AreListed (names_at (stmts_of (take l.i l.placed))) l.lists l.free.items;
  places : l.idle ++ idle_insts (stmts_of (take l.i l.placed)) (stmts_of (drop l.i l.placed)) ≡ idle_insts [] (stmts_of l.placed);
}
