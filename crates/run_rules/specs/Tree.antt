-- The device tree, after the tree of drvctl(8), and its lines, which are this project's profile.
use Rattle.std.specs.Prelude.{ℕ, zero, suc, ◌+◌, Bool, nat_lt, if◌then◌else◌, List, [], ◌∷◌, ◌++◌, length, map, flat_map, decimal, codes}
use Rattle.cf_types.specs.declared.tree.DevLine.{DevLine}
use Rattle.cf_types.specs.declared.tree.Hold.{Hold}
use Rattle.run_rules.specs.declared.world.Dev.{Dev}
use Rattle.run_rules.specs.References.{holds_on}
use Rattle.run_rules.specs.World.{World, children, name_of, parent_name, is_condemned}
use Rattle.cf_types.specs.Lines.{text_of}
use Rattle.cf_types.specs.Numbers.{below}

-- the devices below a parent, each with its depth: depth first, children by serial; so many levels serve
unfoldable pub tree_below : ℕ → List Dev → ℕ → ℕ → List (ℕ × Dev)
tree_below zero live depth p = []
tree_below (suc n) live depth p = flat_map (λ d. (depth, d) ∷ tree_below n live (depth + 1) d.serial) (children live p)

abbrev pub dev_line : World → ℕ × Dev → DevLine
dev_line w e = record {
  depth = e.0;
  name = name_of w.setup e.1;
  parent = parent_name w.setup w.live e.1.parent;
  row = e.1.row;
  asleep = e.1.asleep;
  condemned = is_condemned e.1;
  holders = holds_on w.refs w.sole e.1.serial;
}

-- the whole tree, from the root's children on
unfoldable pub tree_lines : World → List DevLine
tree_lines w = map (dev_line w) (tree_below (length w.live) w.live 0 0)

-- ---- the text

abbrev pub marked_by : Bool → List ℕ → List ℕ
marked_by mark text = if mark then text else []

-- the caller, how many references it has if they are more than one, and whether its is the only one
abbrev pub hold_text : Hold → List ℕ
hold_text h = codes " " ++ decimal h.caller ++ marked_by (nat_lt 1 h.count) (codes "*" ++ decimal h.count) ++ marked_by h.sole (codes "!")

abbrev pub held_text : List Hold → List ℕ
held_text [] = []
held_text (h ∷ hs) = codes " held" ++ flat_map hold_text (h ∷ hs)

-- two spaces for each level, the name, the parent, the row, and what there is to say of it
unfoldable pub dev_text : DevLine → List ℕ
dev_text d =
    flat_map (λ _. codes "  ") (below d.depth) ++ d.name ++ codes " at " ++ d.parent ++ codes " row " ++ decimal d.row
    ++ marked_by d.asleep (codes " asleep") ++ marked_by d.condemned (codes " condemned") ++ held_text d.holders

unfoldable pub tree_text : World → List ℕ
tree_text w = text_of (codes "tree" ∷ map dev_text (tree_lines w))
