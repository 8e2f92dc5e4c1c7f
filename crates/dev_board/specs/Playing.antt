-- What the turns of an order do to a board.
use Rattle.std.specs.Prelude.{◌≡◌, ◌++◌, ℕ, List, take}
use Rattle.run_rules.specs.Run.{played}
use Rattle.dev_board.specs.Shown.{Shown}

-- the board did what its world plays by these turns, and no other thing
pub record Plays (old : Shown) (order : List ℕ) (new : Shown) : Type 0 where
  pub world : new.world ≡ (played old.world order).1
  pub events : new.events ≡ old.events ++ (played old.world order).0
  pub stops : new.stops ≡ old.stops
  pub stopped : new.stopped ≡ old.stopped

-- it did the first of these turns
pub record PlaysSome (old : Shown) (order : List ℕ) (new : Shown) : Type 0 where
  pub many : ℕ
  pub plays : Plays old (take many order) new
