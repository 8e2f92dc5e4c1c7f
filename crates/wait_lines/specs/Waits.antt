-- Who waits for whom: a line for each caller that waits until nobody holds a device.
use Rattle.std.specs.Prelude.{ℕ, ◌+◌, List, [], ◌∷◌, ◌++◌, codes, decimal, flat_map, length}
use Rattle.cf_types.specs.Numbers.{below}
use Rattle.cf_types.specs.declared.tree.Hold.{Hold}
use Rattle.run_rules.specs.declared.deed.Choice.{Choice}
use Rattle.run_rules.specs.declared.deed.Choice.TheVariants.{Waits}
use Rattle.run_rules.specs.declared.world.Wait.TheVariants.{Refs}
use Rattle.run_rules.specs.Next.{name_at, next}
use Rattle.run_rules.specs.References.{holds_on}
use Rattle.run_rules.specs.World.{World}

abbrev pub holder_text : Hold → List ℕ
holder_text h = codes " " ++ decimal h.caller

-- the caller, the device's name, and who holds the device
abbrev pub wait_text : ℕ → List ℕ → List Hold → List ℕ
wait_text k device holders = decimal k ++ codes " waits for " ++ device ++ codes ", held by" ++ flat_map holder_text holders

-- caller k waits for the device of serial s
abbrev pub wait_line : World → ℕ → ℕ → List ℕ
wait_line w k s = wait_text k (name_at w s) (holds_on w.refs w.sole s)

-- the line of a caller that waits for a device; any other caller has none
abbrev pub lines_by : World → ℕ → Choice → List (List ℕ)
lines_by w k (Waits (Refs s)) = wait_line w k s ∷ []
lines_by w k _ = []

abbrev pub lines_at : World → ℕ → List (List ℕ)
lines_at w k = lines_by w k (next w k)

-- the lines of all callers of scripts, in their order
unfoldable pub wait_lines : World → List (List ℕ)
wait_lines w = flat_map (λ i. lines_at w (i + 1)) (below (length w.setup.scripts))
