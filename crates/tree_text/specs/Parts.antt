-- The parts of a device's line behind its level.
use Rattle.std.specs.Prelude.{ℕ, List, ◌++◌, codes, decimal}
use Rattle.cf_types.specs.declared.tree.DevLine.{DevLine}
use Rattle.run_rules.specs.Tree.{held_text, marked_by}

-- where it stands, and by which row
abbrev pub place_text : DevLine → List ℕ
place_text d = d.name ++ codes " at " ++ d.parent ++ codes " row " ++ decimal d.row

-- whether it sleeps, whether it is to go, who holds it
abbrev pub state_text : DevLine → List ℕ
state_text d = marked_by d.asleep (codes " asleep") ++ marked_by d.condemned (codes " condemned") ++ held_text d.holders
