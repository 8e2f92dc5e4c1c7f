-- How often devices are held, and by how many frames and deferred scans they are pinned, by tallies.
use Rattle.std.specs.Prelude.{◌≡◌, ◌==◌, ◌<◌, ℕ, List, [], count_by, length}
use Rattle.std.specs.List.{slice_index_or}
use Rattle.run_rules.specs.declared.world.Deferred.{Deferred}
use Rattle.run_rules.specs.declared.world.Frame.{Frame}
use Rattle.run_rules.specs.declared.world.Ref.{Ref}
use Rattle.run_rules.specs.References.{count_in, refs_to}
use Rattle.run_rules.specs.World.{frame_serial}

-- what the tally of a caller says of a device
abbrev pub tally_at : List (List ℕ) → ℕ → ℕ → ℕ
tally_at callers k s = slice_index_or (slice_index_or callers k []) s 0

-- one tally says how often each device is held, and one for each caller how often that caller holds it
pub record AreTallied (refs : List Ref) (devices : List ℕ) (callers : List (List ℕ)) : Type 0 where
  pub by_all : (s : ℕ) → slice_index_or devices s 0 ≡ refs_to refs s
  pub by_each : (k s : ℕ) → tally_at callers k s ≡ count_in refs k s

-- there is a tally for the caller, and room in it for the device
pub record HasRoom (callers : List (List ℕ)) (k s : ℕ) : Type 0 where
  pub there : k < length callers
  pub reached : s < length (slice_index_or callers k [])

-- the tally says how many of the frames are for each device
abbrev pub AreFramed : List Frame → List ℕ → Type 0
AreFramed frames framed = (s : ℕ) → slice_index_or framed s 0 ≡ count_by (λ f. frame_serial f == s) frames

-- and how many of the deferred scans are of each device
abbrev pub ArePutOff : List Deferred → List ℕ → Type 0
ArePutOff scans children = (s : ℕ) → slice_index_or children s 0 ≡ count_by (λ e. e.child == s) scans
