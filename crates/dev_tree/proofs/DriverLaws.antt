-- What a tree says of a world whose devices it holds, where the drivers are those of the devices' rows.
use Rattle.std.proofs.Common.{◌≡◌, ◌≢◌, ◌<◌, ℕ, Bool, true, false, not, ◌&&◌, ◌||◌, ◌==◌, cond, Some, None, List, [], ◌∷◌, ◌++◌, map, find, refl, ap, sym, subst, ◌∙◌}
use Rattle.std.specs.Prelude.{IsTrue, filter, option_map}
use Rattle.std.specs.List.{AllByRecursion, list_any, zip}
use Rattle.std.proofs.lemmas.List.{map-append}
use Rattle.run_rules.specs.declared.world.Arrival.{Arrival}
use Rattle.run_rules.specs.declared.world.Dev.{Dev}
use Rattle.run_rules.specs.declared.world.Setup.{Setup}
use Rattle.run_rules.specs.World.{World, driver_of, serial_of}
use Rattle.run_rules.specs.Search.{is_taken}
use Rattle.run_rules.specs.After.{new_device, freed, with_sleep, with_condemner}
use Rattle.run_rules.specs.Sound.{EachLater, IsApart, HasSoundDevices}
use Rattle.dev_tree.specs.Tree.{Devices, AreDriversOf, AreSound, has_name, is_named, serial_named, with_device, without_device}
use Rattle.dev_tree.proofs.Alike.{SamePlain, sleep_plain, condemner_plain}

abbrev drivers_of : Setup → List Dev → List ℕ
drivers_of s ds = map (λ d. driver_of s d.row) ds

-- ---- names

any_is : (s : Setup) (device unit : ℕ) (ds : List Dev) → list_any (has_name device unit) (zip ds (drivers_of s ds)) ≡ is_taken s ds device unit
any_is s device unit [] = refl
any_is s device unit (d ∷ ds) = ap (λ b. (driver_of s d.row == device && d.unit == unit) || b) (any_is s device unit ds)

pub named_is : (s : Setup) (t : Devices) (device unit : ℕ) → AreDriversOf s t → is_named t device unit ≡ is_taken s t.live device unit
named_is s t device unit h = ap (λ ks. list_any (has_name device unit) (zip t.live ks)) h ∙ any_is s device unit t.live

find_is : (s : Setup) (device unit : ℕ) (ds : List Dev)
    → option_map (λ p. p.0.serial) (find (has_name device unit) (zip ds (drivers_of s ds))) ≡ serial_of (find (λ d. driver_of s d.row == device && d.unit == unit) ds)
find_is s device unit [] = refl
find_is s device unit (d ∷ ds) = cases (driver_of s d.row == device && d.unit == unit) (find_is s device unit ds)
  where
    cases : (b : Bool) → option_map (λ p. p.0.serial) (find (has_name device unit) (zip ds (drivers_of s ds))) ≡ serial_of (find (λ d. driver_of s d.row == device && d.unit == unit) ds)
        → option_map (λ (p : Dev × ℕ). p.0.serial) (cond b (Some (d, driver_of s d.row)) (find (has_name device unit) (zip ds (drivers_of s ds))))
        ≡ serial_of (cond b (Some d) (find (λ d. driver_of s d.row == device && d.unit == unit) ds))
    cases true more = refl
    cases false more = more

pub serial_named_is : (s : Setup) (t : Devices) (device unit : ℕ) → AreDriversOf s t
    → serial_named t device unit ≡ serial_of (find (λ d. driver_of s d.row == device && d.unit == unit) t.live)
serial_named_is s t device unit h =
    ap (λ ks. option_map (λ (p : Dev × ℕ). p.0.serial) (find (has_name device unit) (zip t.live ks))) h ∙ find_is s device unit t.live

-- ---- each change keeps the drivers those of the rows

pub drivers_with : (s : Setup) (t : Devices) (device : ℕ) (a : Arrival) → AreDriversOf s t → device ≡ driver_of s a.row → AreDriversOf s (with_device t device a)
drivers_with s t device a h e =
    ap (λ ks. ks ++ device ∷ []) h ∙ ap (λ k. drivers_of s t.live ++ k ∷ []) e
    ∙ sym (map-append (λ (d : Dev). driver_of s d.row) t.live (record { serial = t.next; row = a.row; unit = a.unit; parent = a.parent; spot = a.spot; asleep = false; condemned = None } ∷ []))

left_is : (s : Setup) (test : Dev → Bool) (ds : List Dev) → map (λ p. p.1) (filter (λ p. test p.0) (zip ds (drivers_of s ds))) ≡ drivers_of s (filter test ds)
left_is s test [] = refl
left_is s test (d ∷ ds) = cases (test d) (left_is s test ds)
  where
    cases : (b : Bool) → map (λ p. p.1) (filter (λ p. test p.0) (zip ds (drivers_of s ds))) ≡ drivers_of s (filter test ds)
        → map (λ p. p.1) (cond b ((d, driver_of s d.row) ∷ filter (λ p. test p.0) (zip ds (drivers_of s ds))) (filter (λ p. test p.0) (zip ds (drivers_of s ds))))
        ≡ drivers_of s (cond b (d ∷ filter test ds) (filter test ds))
    cases true more = ap (λ ks. driver_of s d.row ∷ ks) more
    cases false more = more

pub drivers_without : (s : Setup) (t : Devices) (k : ℕ) → AreDriversOf s t → AreDriversOf s (without_device t k)
drivers_without s t k h =
    ap (λ ks. map (λ (p : Dev × ℕ). p.1) (filter (λ p. not (p.0.serial == k)) (zip t.live ks))) h ∙ left_is s (λ d. not (d.serial == k)) t.live

marked_is : (s : Setup) (f : Dev → Dev) → ((d : Dev) → SamePlain d (f d)) → (ds : List Dev) → drivers_of s ds ≡ drivers_of s (map f ds)
marked_is s f same [] = refl
marked_is s f same (d ∷ ds) = ap (λ (e : Dev). driver_of s e.row ∷ drivers_of s ds) (same d) ∙ ap (λ ks. driver_of s (f d).row ∷ ks) (marked_is s f same ds)

pub drivers_asleep : (s : Setup) (t : Devices) (k : ℕ) (asleep : Bool) → AreDriversOf s t → AreDriversOf s (record t { live = map (with_sleep k asleep) t.live })
drivers_asleep s t k asleep h = h ∙ marked_is s (with_sleep k asleep) (sleep_plain k asleep) t.live

pub drivers_condemned : (s : Setup) (t : Devices) (k by : ℕ) → AreDriversOf s t → AreDriversOf s (record t { live = map (with_condemner t.live by k) t.live })
drivers_condemned s t k by h = h ∙ marked_is s (with_condemner t.live by k) (condemner_plain t.live by k) t.live

-- ---- the devices of a world

pub live_with : (w : World) (t : Devices) (device : ℕ) (a : Arrival) → t.live ≡ w.live → t.next ≡ w.next → (with_device t device a).live ≡ w.live ++ new_device w a ∷ []
live_with w t device a e f =
    ap (λ ds. ds ++ record { serial = t.next; row = a.row; unit = a.unit; parent = a.parent; spot = a.spot; asleep = false; condemned = None } ∷ []) e
    ∙ ap (λ n. w.live ++ record { serial = n; row = a.row; unit = a.unit; parent = a.parent; spot = a.spot; asleep = false; condemned = None } ∷ []) f

pub live_without : (w : World) (t : Devices) (k : ℕ) → t.live ≡ w.live → (without_device t k).live ≡ (freed w k).live
live_without w t k e = ap (filter (λ d. not (d.serial == k))) e

-- what a tree keeps is that its devices are sound
apart_each : (s : Setup) (ds : List Dev) (d : Dev) → AllByRecursion (λ e. d.serial < e.serial) ds → AllByRecursion (λ e. d.spot ≢ e.spot) ds
    → AllByRecursion (λ q. IsTrue (not (driver_of s d.row == q.1 && d.unit == q.0.unit))) (zip ds (drivers_of s ds)) → AllByRecursion (IsApart s d) ds
apart_each s [] d later spots names = tt
apart_each s (e ∷ ds) d later spots names = (record { later = later.0; names = names.0; spots = spots.0 }, apart_each s ds d later.1 spots.1 names.1)

apart_all : (s : Setup) (ds : List Dev) → EachLater (λ d e. d.serial < e.serial) ds → EachLater (λ d e. d.spot ≢ e.spot) ds
    → EachLater (λ p q. IsTrue (not (p.1 == q.1 && p.0.unit == q.0.unit))) (zip ds (drivers_of s ds)) → EachLater (IsApart s) ds
apart_all s [] later spots names = tt
apart_all s (d ∷ ds) later spots names = (apart_each s ds d later.0 spots.0 names.0, apart_all s ds later.1 spots.1 names.1)

pub sound_devices : (s : Setup) (t : Devices) → AreSound t → AreDriversOf s t → HasSoundDevices s t.live t.next
sound_devices s t h e = record {
  placed = h.placed;
  apart = apart_all s t.live h.later h.spots (subst (λ ks. EachLater (λ p q. IsTrue (not (p.1 == q.1 && p.0.unit == q.0.unit))) (zip t.live ks)) e h.names);
}
