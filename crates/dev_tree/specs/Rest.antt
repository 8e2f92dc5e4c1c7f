-- Between which places the last device awake and the first one asleep stand.
use Rattle.std.specs.Prelude.{◌≡◌, ℕ, ◌+◌, ◌<◌, ◌≤◌, Bool, false, true, List, [], ◌∷◌, ◌++◌, find, length, reverse}
use Rattle.std.specs.List.{slice_index_or}
use Rattle.run_rules.specs.declared.world.Dev.{Dev}
use Rattle.dev_tree.specs.declared.resting.Resting.{Resting}

-- all devices before one place are awake, and all from the other one on sleep
pub record AreResting (live : List Dev) (r : Resting) : Type 0 where
  pub awake : (i : ℕ) (d : Dev) → i < length live → i < r.awake_before → (slice_index_or live i d).asleep ≡ false
  pub asleep : (i : ℕ) (d : Dev) → i < length live → r.asleep_from ≤ i → (slice_index_or live i d).asleep ≡ true

-- with one device more, awake and the last of so many, the places are the new ones
abbrev pub CountsOneMore : ℕ → Resting → Resting → Type 0
CountsOneMore count old new =
    (live : List Dev) (d : Dev) → length live + 1 ≡ count → d.asleep ≡ false → AreResting live old → AreResting (live ++ d ∷ []) new

-- a search from the end for a test that sleeping devices fail finds among the first devices what it finds among all
abbrev pub HasLastAwake : List Dev → List Dev → Type 0
HasLastAwake live front =
    (test : Dev → Bool) → ((d : Dev) → d.asleep ≡ true → test d ≡ false) → find test (reverse live) ≡ find test (reverse front)

-- a search for a test that devices awake fail finds among the last devices what it finds among all
abbrev pub HasFirstAsleep : List Dev → List Dev → Type 0
HasFirstAsleep live back = (test : Dev → Bool) → ((d : Dev) → d.asleep ≡ false → test d ≡ false) → find test live ≡ find test back
