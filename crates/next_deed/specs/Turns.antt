-- What searches, and the turns of a scan of a world.
use Rattle.std.specs.Prelude.{ℕ, Bool, List, Option}
use Rattle.run_rules.specs.declared.world.Setup.{Setup}
use Rattle.run_rules.specs.declared.world.Dev.{Dev}
use Rattle.run_rules.specs.declared.deed.Deed.{Deed}
use Rattle.run_rules.specs.declared.world.Position.{Position}
use Rattle.run_rules.specs.declared.world.Turn.{Turn}
use Rattle.run_rules.specs.declared.world.Wanted.{Wanted}
use Rattle.run_rules.specs.Next.{next_scan}
use Rattle.run_rules.specs.Search.{driver_at, attach_at, due, is_due, is_open, parent_ref, spot_of}
use Rattle.run_rules.specs.World.{World}
use Rattle.run_world.specs.Late.{late_test}
use Rattle.next_deed.specs.declared.due.Searcher.{Searcher}

-- the driver, the attachment and the spot of a live device, and as what rows name it; none of the three for the root
abbrev pub searcher_of : Setup → List Dev → ℕ → Searcher
searcher_of s live p = record { driver = driver_at s live p; attach = attach_at s live p; spot = spot_of live p; parent = parent_ref s live p }

-- the first turn from a position on that is due in a world, and whether a turn is due there
abbrev pub due_at : World → ℕ → Option ℕ → List Wanted → Position → Option Turn
due_at w p only filter from = due w.setup w.live w.absent w.hidden p only filter from

abbrev pub is_due_at : World → ℕ → List Wanted → Turn → Bool
is_due_at w p filter turn = is_due w.setup w.live w.absent w.hidden p filter turn

-- whether a spot is open to a search there
abbrev pub is_open_at : World → List Wanted → ℕ → Bool
is_open_at w filter x = is_open w.setup.machine w.live w.absent w.hidden filter x

-- what is done next on a scan there
abbrev pub next_scan_at : World → ℕ → Option ℕ → List Wanted → Position → Deed
next_scan_at w p only filter from = next_scan w.setup w.live w.absent w.hidden p only filter from

-- whether a finaliser of the device would show the spot there
abbrev pub is_late_at : World → Dev → ℕ → Bool
is_late_at w d x = late_test w.setup w.absent w.hidden d x
