-- What is written of whole runs: the history of a boot in both formats, its tree, and trees with devices that are held.
use Prim.Native.String.{String}
use Rattle.std.proofs.Common.{◌≡◌, ℕ, List, [], ◌∷◌, ◌++◌, refl, codes}
use Rattle.std.specs.Prelude.{flat_map}
use Rattle.run_rules.specs.declared.world.Setup.{Setup}
use Rattle.run_rules.specs.References.{holds_on}
use Rattle.run_rules.specs.Tree.{tree_lines, dev_text, tree_text}
use Rattle.run_rules.specs.Lines.{lines, act_text_1, line_of_1, lines_1}
use Rattle.worked_runs.proofs.ReferenceRuns.{condemned_and_held_setup, counted_and_sole_setup, sixteenth_open_setup}
use Rattle.worked_runs.proofs.Worked.{computed, run_of}
use Rattle.worked_runs.proofs.Worlds.{isa, isa_boot}

-- lines, each with its newline
abbrev text : List String → List ℕ
text ls = flat_map (λ l. codes l ++ 10 ∷ []) ls

boot_history : lines (run_of (isa []) "000000000").0 ≡ text ("history 2" ∷ isa_boot)
unfolding computed lines
boot_history = refl

boot_history_1 : lines_1 (run_of (isa []) "000000000").0
    ≡ text ("history 1" ∷ "0.0 found root: mainbus0" ∷ "0.0 found mainbus0: isa0" ∷ "0.0 found isa0: com0" ∷ "0.0 found isa0: com1"
    ∷ "0.0 scan isa0: done" ∷ "0.0 scan mainbus0: done" ∷ "0.0 scan root: done" ∷ "0.0 interrupts" ∷ "0.0 end" ∷ [])
unfolding computed lines_1 line_of_1 act_text_1
boot_history_1 = refl

-- the tree that the turns leave; opened, it opens all that it is computed by
unfoldable tree_after : Setup → String → List ℕ
unfolding computed tree_text tree_lines dev_text holds_on
tree_after s order = tree_text (run_of s order).1

-- the tree of the isa machine, with this line of com0 and this one of com1
abbrev isa_tree : String → String → List ℕ
isa_tree first second = text ("tree" ∷ "mainbus0 at root row 0" ∷ "  isa0 at mainbus0 row 1" ∷ first ∷ second ∷ [])

boot_tree : tree_after (isa []) "000000000" ≡ isa_tree "    com0 at isa0 row 2" "    com1 at isa0 row 3"
unfolding tree_after
boot_tree = refl

condemned_tree : tree_after condemned_and_held_setup "000000000 12"
    ≡ isa_tree "    com0 at isa0 row 2 condemned held 1" "    com1 at isa0 row 3"
unfolding tree_after
condemned_tree = refl

counted_tree : tree_after counted_and_sole_setup "000000000 112122"
    ≡ isa_tree "    com0 at isa0 row 2 held 1*2 2" "    com1 at isa0 row 3 held 2!"
unfolding tree_after
counted_tree = refl

full_tree : tree_after sixteenth_open_setup "000000000 1111111111111111"
    ≡ isa_tree "    com0 at isa0 row 2 held 1*15" "    com1 at isa0 row 3"
unfolding tree_after
full_tree = refl
