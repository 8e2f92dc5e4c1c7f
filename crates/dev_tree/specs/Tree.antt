-- The live devices in order of attachment, as contracts see them. After the device tree of autoconf(9).
use Rattle.std.specs.Prelude.{◌≡◌, ◌≢◌, ℕ, ◌+◌, ◌<◌, Bool, false, not, ◌&&◌, ◌==◌, IsTrue, List, [], ◌∷◌, ◌++◌, length, map, filter, find, Option, None, option_map}
use Rattle.std.specs.List.{AllByRecursion, list_any, slice_index_or, zip}
use Rattle.run_rules.specs.declared.world.Arrival.{Arrival}
use Rattle.run_rules.specs.declared.world.Dev.{Dev}
use Rattle.run_rules.specs.declared.world.Setup.{Setup}
use Rattle.run_rules.specs.World.{device_on, driver_of, serial_of}
use Rattle.run_rules.specs.Sound.{EachLater, IsPlaced}

-- the live devices, for each of them the number of its driver, and the serial of the next one
pub record Devices : Type 0 where
  pub live : List Dev
  pub drivers : List ℕ
  pub next : ℕ

-- each device with its driver
abbrev pub driven : Devices → List (Dev × ℕ)
driven t = zip t.live t.drivers

abbrev pub has_name : ℕ → ℕ → Dev × ℕ → Bool
has_name device unit p = p.1 == device && p.0.unit == unit

-- whether a live device has this driver and unit
abbrev pub is_named : Devices → ℕ → ℕ → Bool
is_named t device unit = list_any (has_name device unit) (driven t)

-- the serial of the live device that has
abbrev pub serial_named : Devices → ℕ → ℕ → Option ℕ
serial_named t device unit = option_map (λ p. p.0.serial) (find (has_name device unit) (driven t))

-- the device came, awake, and has the next serial
abbrev pub with_device : Devices → ℕ → Arrival → Devices
with_device t device a = record {
  live = t.live ++ record { serial = t.next; row = a.row; unit = a.unit; parent = a.parent; spot = a.spot; asleep = false; condemned = None } ∷ [];
  drivers = t.drivers ++ device ∷ [];
  next = t.next + 1;
}

-- the device is gone; its serial is not given again
abbrev pub without_device : Devices → ℕ → Devices
without_device t s = record {
  live = filter (λ d. not (d.serial == s)) t.live;
  drivers = map (λ p. p.1) (filter (λ p. not (p.0.serial == s)) (driven t));
  next = t.next;
}

-- the drivers are those of the devices' rows
abbrev pub AreDriversOf : Setup → Devices → Type 0
AreDriversOf s t = t.drivers ≡ map (λ d. driver_of s d.row) t.live

-- serials are above 0 and increase
pub record AreInOrder (live : List Dev) : Type 0 where
  pub above : AllByRecursion (λ d. 0 < d.serial) live
  pub later : EachLater (λ d e. d.serial < e.serial) live

-- serials increase and are below the next one, a parent is the root or an earlier device, and no two devices have a spot or a name in common
pub record AreSound (t : Devices) : Type 0 where
  pub drivers : length t.drivers ≡ length t.live
  pub from_one : 0 < t.next
  pub placed : AllByRecursion (IsPlaced t.live t.next) t.live
  pub later : EachLater (λ d e. d.serial < e.serial) t.live
  pub spots : EachLater (λ d e. d.spot ≢ e.spot) t.live
  pub names : EachLater (λ p q. IsTrue (not (p.1 == q.1 && p.0.unit == q.0.unit))) (driven t)

-- of each spot the serial of the device on it
abbrev pub AreOnSpots : List Dev → List (Option ℕ) → Type 0
AreOnSpots live spots = (x : ℕ) → slice_index_or spots x None ≡ serial_of (device_on live x)
