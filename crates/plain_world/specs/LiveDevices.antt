-- The live devices as contracts see them, with the serial of the next one.
use Rattle.std.specs.Prelude.{◌≡◌, ℕ, ◌<◌, ◌+◌, ◌-◌, ◌==◌, if◌then◌else◌, List, [], ◌∷◌, ◌++◌, length, None, false}
use Rattle.std.specs.List.{AllByRecursion, count_by, slice_index_or}
use Rattle.run_rules.specs.declared.world.Arrival.{Arrival}
use Rattle.run_rules.specs.declared.world.Dev.{Dev}
use Rattle.run_rules.specs.Sound.{EachLater}

-- the devices in the order in which they were attached, and the serial of the next one
pub record LiveDevices : Type 0 where
  pub devices : List Dev
  pub next : ℕ

-- serials are above 0 and below the next one, and increase
pub record AreInOrder (devices : List Dev) (next : ℕ) : Type 0 where
  pub from_one : 0 < next
  pub above : AllByRecursion (λ d. 0 < d.serial) devices
  pub below : AllByRecursion (λ d. d.serial < next) devices
  pub later : EachLater (λ d e. d.serial < e.serial) devices

-- the place is that of the device of a serial
abbrev pub IsPlaceOf : List Dev → ℕ → ℕ → Type 0
IsPlaceOf devices serial i = (i < length devices) × ((d : Dev) → (slice_index_or devices i d).serial ≡ serial)

-- the device that comes by an arrival, awake
abbrev pub device_of : ℕ → Arrival → Dev
device_of next a = record { serial = next; row = a.row; unit = a.unit; parent = a.parent; spot = a.spot; asleep = false; condemned = None }

-- it stands behind the others
abbrev pub with_device : LiveDevices → Arrival → LiveDevices
with_device t a = record { devices = t.devices ++ device_of t.next a ∷ []; next = t.next + 1 }

-- how many of the devices stand on a spot
abbrev pub standing_on : List Dev → ℕ → ℕ
standing_on devices x = count_by (λ d. d.spot == x) devices

-- the numbers are how many devices stand on each spot
abbrev pub AreCounted : List Dev → List ℕ → Type 0
AreCounted devices counts = (x : ℕ) → slice_index_or counts x 0 ≡ standing_on devices x

-- one device went, from this spot
abbrev pub IsLeft : List Dev → List Dev → ℕ → Type 0
IsLeft old new spot = (x : ℕ) → standing_on new x ≡ standing_on old x - (if spot == x then 1 else 0)
