-- The names of a run.
use Rattle.std.specs.Prelude.{◌≡◌, ℕ, []}
use Rattle.atomic_table.specs.Seated.{TableId}
use Rattle.run_rules.specs.World.{World}
use Rattle.dev_board.specs.Shown.{Shown, began}
use Rattle.board_lock.specs.Seats.{Parts}

-- the table of a name that stands for no run
abbrev pub no_table : TableId
no_table = record { words = 1; slots = 0; views_name = 0; atom = 0; block = 0; offset = 0; slot_names = [] }

-- the names of a run of this board with these parts
pub record AreNames (w : World) (c d s : ℕ) (z : TableId) (b : Shown) (p : Parts) : Type 0 where
  pub opening : began b ≡ w
  pub closings : p.closings ≡ c
  pub dids : p.dids ≡ d
  pub stops : p.stops ≡ s
  pub table : p.table ≡ z
