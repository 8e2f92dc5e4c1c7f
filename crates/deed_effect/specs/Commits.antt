-- What a commit needs room for, and what it leaves.
use Rattle.std.specs.Prelude.{◌≡◌, ℕ, List, length, ◌≤◌, ◌<◌, ◌==◌, not, filter, Option, Some, None, vec_len, vec_capacity}
use Rattle.run_rules.specs.declared.world.Deferred.{Deferred}
use Rattle.run_rules.specs.declared.deed.Deed.{Deed}
use Rattle.run_rules.specs.declared.deed.Deed.TheVariants.{Search, EndScan, BeginInterrupts, Finalise}
use Rattle.run_rules.specs.After.{after}
use Rattle.run_rules.specs.declared.world.Key.TheVariants as key
use Rattle.defer_queue.specs.Queue.{entries_of}
use Rattle.run_world.specs.declared.parts.Core.{Core}
use Rattle.run_world.specs.declared.site.Site.{Site}
use Rattle.run_world.specs.Sites.{world_at}
use Rattle.run_world.specs.Arrivals.{state_at}

-- how many frames a deed may push, beside the one of a rescan
abbrev pub frames_for : List Deferred → Deed → ℕ
frames_for entries (EndScan of) = length (entries_of entries (key.Parent of))
frames_for entries BeginInterrupts = length (entries_of entries key.Interrupts)
frames_for entries (Search parent spot moved got) = 2
frames_for entries (Finalise of shown got listed anew) = 2
frames_for entries _ = 0

pub record HasRoom (c : Core) (k : ℕ) (d : Deed) : Type 0 where
  pub frames : frames_for c.deferred d ≤ (state_at c.callers.items k).stack.room
  pub calls : vec_len c.finalisers < vec_capacity c.finalisers

-- the hidden spots, where one is seen from now on
abbrev pub shown_now : List ℕ → Option ℕ → List ℕ
shown_now hidden None = hidden
shown_now hidden (Some x) = filter (λ y. not (y == x)) hidden

-- the world is the one after a deed of a caller
abbrev pub IsAfter : Site → Core → ℕ → Deed → Core → Type 0
IsAfter site old k d new = world_at site new ≡ after (world_at site old) k d
