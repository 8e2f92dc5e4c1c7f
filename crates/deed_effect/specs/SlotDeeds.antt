-- What deeds do to slots: those of a subtree are condemned, and a device whose slot callers hold is not freed.
use Rattle.std.specs.Prelude.{length, ◌≡◌, ◌≢◌, ◌<◌, ℕ, false, IsTrue, List, [], map, Option, Some, None}
use Rattle.std.specs.List.{AllByRecursion}
use Rattle.ref_ledger.specs.declared.state.SlotState.{SlotState}
use Rattle.run_rules.specs.After.{with_condemner}
use Rattle.run_rules.specs.declared.world.Setup.{Setup}
use Rattle.deed_effect.specs.Agreement.{state_at}
use Rattle.cf_types.specs.Numbers.{below}
use Rattle.deed_effect.specs.declared.slots.Halt.{Halt}
use Rattle.deed_effect.specs.declared.slots.Halt.TheVariants as halt
use Rattle.run_rules.specs.declared.deed.Deed.{Deed}
use Rattle.run_rules.specs.declared.deed.Deed.TheVariants.{Detach, Free, Unplug}
use Rattle.ref_ledger.specs.Slots.{Denial}
use Rattle.run_rules.specs.declared.world.Dev.{Dev}
use Rattle.run_rules.specs.declared.world.Wait.{Wait}
use Rattle.run_rules.specs.declared.world.Wait.TheVariants as wait
use Rattle.run_rules.specs.World.{children, device_at, is_condemned, is_live, is_under}

-- the slots are still as before a device and all that is below it were condemned, none of which was condemned then
pub record LatelyCondemned (s : Setup) (live : List Dev) (target : ℕ) (states : List SlotState) : Type 0 where
  pub caller : ℕ
  pub were : List Dev
  pub marked : live ≡ map (with_condemner were caller target) were
  pub spared : AllByRecursion (λ d. IsTrue (is_under were target d.serial) → is_condemned d ≡ false) were
  pub agree : states ≡ map (state_at were) (below (length s.machine.spots))

-- callers of this mask, in which somebody stands, hold the slot: the denial was counted, and is the last one
pub record IsDenied (slot denied mask denies : ℕ) (last : Option Denial) : Type 0 where
  pub more : denied < denies
  pub newest : last ≡ Some (record { slot = slot; mask = mask })
  pub held : mask ≢ 0

-- the caller waits for those who hold the slot of the device
pub record WaitsForLeases (live : List Dev) (of denied : ℕ) (why : Wait) (denies : ℕ) (last : Option Denial) : Type 0 where
  pub mask : ℕ
  pub device : Dev
  pub found : device_at live of ≡ Some device
  pub why_is : why ≡ wait.Leases of mask
  pub denied_so : IsDenied device.spot denied mask denies last

-- the device that a deed condemns, with all that is below it
abbrev pub condemned_by : Deed → Option ℕ
condemned_by (Detach of) = Some of
condemned_by (Unplug spot of) = of
condemned_by _ = None

-- the device lives and has no children
abbrev pub IsAlone : List Dev → ℕ → Type 0
IsAlone live s = IsTrue (is_live live s) × (children live s ≡ [])

-- before slots are condemned: those of the subtree are as before the deed, or, where it condemned nothing, all agree with the devices
abbrev pub SlotsLag : Setup → List Dev → Option ℕ → List SlotState → Type 0
SlotsLag s live (Some of) states = LatelyCondemned s live of states
SlotsLag s live None states = states ≡ map (state_at live) (below (length s.machine.spots))

-- why a deed was not done: memory ran out, or it frees a device whose slot callers hold
abbrev pub HaltIs : List Dev → Deed → ℕ → Option Denial → Halt → ℕ → Option Denial → Type 0
HaltIs live x denied last halt.Memory denies newest = (denies ≡ denied) × (newest ≡ last)
HaltIs live x denied last (halt.Waits why) denies newest = (of : ℕ) × (x ≡ Free of) × WaitsForLeases live of denied why denies newest
