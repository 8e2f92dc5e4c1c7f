-- What is kept of the groups that are on.
use Rattle.std.specs.Prelude.{◌≡◌, ◌≢◌, ℕ, ◌<◌, ◌≤◌, false, length, reverse, vec_capacity}
use Rattle.std.specs.List.{AllByRecursion, slice_index_or}
use Rattle.run_rules.specs.Sound.{EachLater}
use Rattle.run_rules.specs.World.{has}
use Rattle.live_tables.specs.Groups.{Switches}
use Rattle.live_tables.specs.declared.on_groups.OnGroups.TheInside.{Inside}

abbrev pub groups_view : Inside → Switches
groups_view it = record { count = length it.marks.items; on = reverse it.list.items }

-- the marks are of those in the list, in which each stands once, and there is room for each group
pub record GroupsKept (it : Inside) : Type 0 where
  pub marked : (g : ℕ) → slice_index_or it.marks.items g false ≡ has it.list.items g
  pub once : EachLater (λ g h. g ≢ h) it.list.items
  pub there : AllByRecursion (λ g. g < length it.marks.items) it.list.items
  pub room : length it.marks.items ≤ vec_capacity it.list
