-- What keeps devices from going, told by marks in place of a world.
use Rattle.std.specs.Prelude.{◌≡◌, ℕ, Bool, not, ◌&&◌, ◌||◌, IsTrue, List, find, Option}
use Rattle.std.specs.List.{AllByRecursion}
use Rattle.run_rules.specs.declared.world.Dev.{Dev}
use Rattle.run_rules.specs.declared.world.Ref.{Ref}
use Rattle.run_rules.specs.World.{World, has, is_under, is_condemned, is_pinned, holds_in, policy_of}

-- the serials of devices that frames or put-off scans are for, and of those whose driver does not support detaching
pub record Marked : Type 0 where
  pub pinned : List ℕ
  pub undetachable : List ℕ

-- the device is in the target's subtree, and its driver, a scan, another freeing or a reference of the caller keeps it
abbrev pub stands_in_way : List Dev → List Ref → Marked → ℕ → ℕ → Bool → Dev → Bool
stands_in_way live refs marks target k forced d =
    is_under live target d.serial
    && ((not forced && has marks.undetachable d.serial) || has marks.pinned d.serial || is_condemned d || holds_in refs k d.serial)

-- the device of least serial that does
unfoldable pub hindrance : List Dev → List Ref → Marked → ℕ → ℕ → Bool → Option Dev
hindrance live refs marks target k forced = find (stands_in_way live refs marks target k forced) live

-- of the devices in the target's subtree exactly the pinned ones are marked so, and, unless it is forced, exactly the undetachable ones
pub record AreMarksOf (w : World) (target : ℕ) (forced : Bool) (marks : Marked) : Type 0 where
  pub pinned : AllByRecursion (λ d. IsTrue (is_under w.live target d.serial) → has marks.pinned d.serial ≡ is_pinned w d.serial) w.live
  pub undetachable : IsTrue (not forced)
      → AllByRecursion (λ d. IsTrue (is_under w.live target d.serial)
      → has marks.undetachable d.serial ≡ (policy_of w.setup d.row).nodetach) w.live
