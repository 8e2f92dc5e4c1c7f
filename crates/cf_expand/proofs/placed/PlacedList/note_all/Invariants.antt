use Rattle.std.proofs.Common.{◌≡◌, ◌≤◌, ◌-◌, length, take}
use Rattle.config_rules.specs.Written.{AreWritten}
use Rattle.cf_expand.specs.Names.{AreNamesOf}
use Rattle.cf_expand.proofs.placed.PlacedList.note_all.Given as goal

abbrev pub invariant-loop-self : goal.invariant-loop-self
invariant-loop-self l = record {
  same : l.self-inside.items.items ≡ l.fn.self;
  names : AreNamesOf (take l.self-inside.noted l.self-inside.items.items) l.self-inside.names;
  few : l.self-inside.noted ≤ length l.self-inside.items.items;
  written : AreWritten l.self-inside.items.items;
}

abbrev pub decreases-loop-self : goal.decreases-loop-self
decreases-loop-self l = length l.self-inside.items.items - l.self-inside.noted
