-- What a deed of a caller leaves with its event, and what its witness tells.
use Rattle.std.specs.Prelude.{◌≡◌, ℕ, [], ◌∷◌, ◌++◌, length}
use Rattle.run_rules.specs.declared.deed.Deed.{Deed}
use Rattle.run_rules.specs.After.{after}
use Rattle.run_rules.specs.Lines.{IsFormed}
use Rattle.run_rules.specs.Run.{event_of}
use Rattle.run_rules.specs.World.{opening}
use Rattle.dev_board.specs.declared.board_state.BoardState.{BoardState}
use Rattle.dev_board.specs.Witness.{Witness, lease_step, told_did}

-- what a deed of a caller leaves: the world after it, and its event as the last one
pub record Performed (old new : BoardState) (k : ℕ) (d : Deed) : Type 0 where
  pub world : new.going ≡ after old.going k d
  pub events : new.events.items ≡ old.events.items ++ event_of old.going k d ∷ []
  pub formed : IsFormed (event_of old.going k d)
  pub stops : new.stops ≡ old.stops
  pub stopped : new.stopped ≡ old.stopped

-- a witness tells the event of the deed, at the place behind the others, and what becomes of the caller's leases
abbrev pub TellsDeed : BoardState → ℕ → Deed → Witness → Type 0
TellsDeed old k d told =
    let w = old.going in told ≡ told_did (opening w.setup) k (length old.events.items) (event_of w k d) (lease_step w (after w k d) k)
