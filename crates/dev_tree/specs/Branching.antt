-- The children of the root and of each live device, in lists.
use Rattle.std.specs.Prelude.{◌≡◌, ℕ, ◌<◌, List, [], length}
use Rattle.std.specs.List.{slice_index_or}
use Rattle.run_rules.specs.declared.world.Dev.{Dev}
use Rattle.run_rules.specs.World.{children}

-- the children of the root, and of each device in the order of the devices
pub record Branching : Type 0 where
  pub top : List Dev
  pub lists : List (List Dev)

-- the lists have exactly the children that are among these devices
pub record AreBranchesIn (live listed : List Dev) (b : Branching) : Type 0 where
  pub count : length b.lists ≡ length live
  pub root : b.top ≡ children listed 0
  pub each : (i : ℕ) (d : Dev) → i < length live → slice_index_or b.lists i [] ≡ children listed (slice_index_or live i d).serial

-- the lists have exactly the children of each device
abbrev pub AreBranches : List Dev → Branching → Type 0
AreBranches live b = AreBranchesIn live live b
