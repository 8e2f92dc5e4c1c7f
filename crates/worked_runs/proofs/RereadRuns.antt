-- Texts that are read again: what is taken, in both formats, and which line is bad.
use Prim.Native.String.{String}
use Rattle.std.proofs.Common.{◌≡◌, ℕ, List, [], ◌∷◌, ◌++◌, map, take, refl, codes}
use Rattle.std.specs.declared.result.Result.{Result}
use Rattle.std.specs.declared.result.Result.TheVariants.{Ok, Err}
use Rattle.run_rules.specs.declared.event.Act.TheVariants as act
use Rattle.run_rules.specs.declared.event.Event.{Event}
use Rattle.run_rules.specs.declared.world.Setup.{Setup}
use Rattle.run_rules.specs.World.{World, opening, setup_of}
use Rattle.run_rules.specs.Tree.{tree_lines, dev_text, tree_text}
use Rattle.run_rules.specs.References.{holds_on}
use Rattle.run_rules.specs.Lines.{act_text_1, line_of_1, lines, lines_1}
use Rattle.run_rules.specs.Reread.{reread, reread_from, reread_lines}
use Rattle.worked_runs.proofs.BootRuns.{late_spots_shown_setup}
use Rattle.worked_runs.proofs.Inputs.{event, tables_of}
use Rattle.worked_runs.proofs.ReferenceRuns.{counted_and_sole_setup}
use Rattle.worked_runs.proofs.Worked.{computed, run_of}
use Rattle.worked_runs.proofs.Worlds.{isa, machine_of}

abbrev events_of : Result (List Event × World) ℕ → Result (List Event) ℕ
events_of (Ok run) = Ok run.0
events_of (Err bad) = Err bad

-- the events that a text tells, or its bad line; opened, it opens all that it is computed by
unfoldable told : Setup → List ℕ → Result (List Event) ℕ
unfolding computed reread reread_from reread_lines line_of_1 act_text_1 lines lines_1
told s text = events_of (reread (opening s) text)

-- ---- the smallest run

abbrev empty : Setup
empty = setup_of (tables_of [] [] [] []) (machine_of 0 [] []) []

abbrev whole : List Event
whole = event 0 0 (act.ScanEnd (codes "root")) ∷ event 0 0 act.Interrupts ∷ event 0 0 act.End ∷ []

-- both heads; what stands before the head and behind the tree is passed
both_formats : map (λ t. told empty (codes t))
    ("noise\nhistory 2\n0.0 scan root: done\n0.0 interrupts\n0.0 end\ntree\nmore"
    ∷ "history 1\n0.0 scan root: done\n0.0 interrupts\n0.0 end\ntree\n" ∷ []) ≡ Ok whole ∷ Ok whole ∷ []
unfolding told
both_formats = refl

-- a run may be cut off; a last line needs no newline
cut_off : map (λ t. told empty (codes t)) ("history 2\n0.0 scan root: done\ntree" ∷ "history 1\ntree" ∷ []) ≡ Ok (take 1 whole) ∷ Ok [] ∷ []
unfolding told
cut_off = refl

-- without a head line 0 is bad; else the first line that is not due, or spelt another way, or of nobody, or empty; the first head counts,
-- and a second one is no event; nothing comes behind the end; a bad line comes before the want of a tree
abbrev bad_lines : List (String × ℕ)
bad_lines =
    ("0.0 scan root: done\ntree\n", 0) ∷ ("history 3\ntree\n", 0) ∷ ("", 0)
    ∷ ("history 2\n0.0 interrupts\n", 2) ∷ ("history 2\n0.00 scan root: done\ntree\n", 2) ∷ ("history 2\n1.1 end\ntree\n", 2)
    ∷ ("history 2\n\ntree\n", 2) ∷ ("history 1\nhistory 2\ntree\n", 2)
    ∷ ("history 2\n0.0 scan root: done\n0.0 interrupts\n0.0 end\n0.0 end\ntree\n", 5) ∷ ("history 2\n0.0 end\n0.0 end\n", 2) ∷ []

bad_line : map (λ p. told empty (codes p.0)) bad_lines ≡ map (λ p. Err p.1) bad_lines
unfolding told
bad_line = refl

-- without a tree it is the line behind the last one, be there a newline at its end or not
abbrev treeless : List (String × ℕ)
treeless = ("history 2\n0.0 scan root: done\n", 3) ∷ ("history 2\n0.0 scan root: done", 3) ∷ ("history 2", 2) ∷ []

no_tree : map (λ p. told empty (codes p.0)) treeless ≡ map (λ p. Err p.1) treeless
unfolding told
no_tree = refl

-- ---- runs with devices

-- what is written of a run is taken in both formats, with the same events
abbrev IsTakenAgain : Setup → String → Type 0
IsTakenAgain s order =
    let h = (run_of s order).0 in
    (told s (lines h ++ codes "tree\n") ≡ Ok h) × (told s (lines_1 h ++ codes "tree\n") ≡ Ok h)

boot_again : IsTakenAgain (isa []) "000000000"
unfolding told
boot_again = (refl, refl)

late_spots_again : IsTakenAgain late_spots_shown_setup "0000000000"
unfolding told
late_spots_again = (refl, refl)

references_again : IsTakenAgain counted_and_sole_setup "000000000 112122"
unfolding told
references_again = (refl, refl)

-- a line of the other format, a row in format 1, another row, and another spot
abbrev bad_boots : List (String × ℕ)
bad_boots =
    ("history 2\n0.0 found root: mainbus0\ntree\n", 2)
    ∷ ("history 1\n0.0 found root: mainbus0\n0.0 found mainbus0 on isa: isa0 row 1\ntree\n", 3)
    ∷ ("history 2\n0.0 found root on mb: mainbus0 row 0\n0.0 found mainbus0 on isa: isa0 row 2\ntree\n", 3)
    ∷ ("history 2\n0.0 found root on isa: mainbus0 row 0\ntree\n", 2) ∷ []

bad_boot : map (λ p. told (isa []) (codes p.0)) bad_boots ≡ map (λ p. Err p.1) bad_boots
unfolding told
bad_boot = refl

-- the world that the lines lead to has its tree
abbrev tree_of : Result (List Event × World) ℕ → List ℕ
tree_of (Ok run) = tree_text run.1
tree_of (Err bad) = []

tree_again : tree_of (reread (opening (isa [])) (codes "history 1\n0.0 found root: mainbus0\n0.0 found mainbus0: isa0\ntree"))
    ≡ codes "tree\nmainbus0 at root row 0\n  isa0 at mainbus0 row 1\n"
unfolding told tree_text tree_lines dev_text holds_on
tree_again = refl
