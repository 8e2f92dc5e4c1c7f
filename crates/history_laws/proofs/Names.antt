-- The devices of a world by the names that they print: each name is of one device, and `root` of none.
use Rattle.std.proofs.Common.{◌≡◌, ◌≢◌, ◌⊎◌, ℕ, ◌<◌, ◌^◌, ◌==◌, true, List, ◌++◌, length, bytes_eq, decimal, Option, Some, None, refl, sym, ap, ◌∙◌, subst, inl, inr, eqb-true, eq-eqb}
use Rattle.std.specs.Option.{option_map_or}
use Rattle.std.specs.List.{AllByRecursion, Contains, list_any}
use Rattle.std.proofs.lemmas.List.Folds.{list_any_at}
use Rattle.std.proofs.lemmas.Slice.Eq.{bytes_eq-Decides}
use Rattle.cf_text.specs.Shapes.{ends_with_digit}
use Rattle.run_rules.specs.declared.world.Setup.{Setup}
use Rattle.run_rules.specs.declared.world.Dev.{Dev}
use Rattle.run_rules.specs.World.{World, device_at, device_named, driver_name, driver_of, name_of, parent_name, root_name, unit_name}
use Rattle.run_rules.specs.Formed.{HasFormedDevices, IsNamed}
use Rattle.run_rules.specs.Lines.{is_known_name}
use Rattle.run_rules.specs.Sound.{EachLater, HaveOwnNames, IsApart, IsPlaced}
use Rattle.run_rules.proofs.Below.{and_both}
use Rattle.run_rules.proofs.FormedNames.{written_device}
use Rattle.run_rules.proofs.Free.{find_true}
use Rattle.run_rules.proofs.OwnNames.{all_at, names_own, row_driver, there}
use Rattle.run_sound.specs.Kept.{Kept, MayRun}
use Rattle.run_sound.proofs.Callers.{clash}
use Rattle.run_sound.proofs.Lasts.{first_found}
use Rattle.run_sound.proofs.Members.{found_contained, of_each, one_serial}
use Rattle.run_sound.proofs.Trees.{none_found}
use Rattle.run_sound.proofs.FormedDevices.{formed_devices}

pub bytes_same : (a b : List ℕ) → bytes_eq a b ≡ true → a ≡ b
bytes_same a b h = (bytes_eq-Decides a b).0 h

pub same_bytes : (a b : List ℕ) → a ≡ b → bytes_eq a b ≡ true
same_bytes a b e = (bytes_eq-Decides a b).1 e

-- ---- a device of a name

pub named_there : (s : Setup) (live : List Dev) (x : List ℕ) (d : Dev) → device_named s live x ≡ Some d → Contains live d
named_there s live x d e = found_contained (λ d. bytes_eq (name_of s d) x) live d e

pub named_so : (s : Setup) (live : List Dev) (x : List ℕ) (d : Dev) → device_named s live x ≡ Some d → name_of s d ≡ x
named_so s live x d e = bytes_same (name_of s d) x (find_true (λ d. bytes_eq (name_of s d) x) live d e)

pub unnamed : (s : Setup) (live : List Dev) (x : List ℕ) (d : Dev) → device_named s live x ≡ None → Contains live d → name_of s d ≢ x
unnamed s live x d e here is =
    clash (list_any (λ d. bytes_eq (name_of s d) x) live)
    (list_any_at (λ d. bytes_eq (name_of s d) x) live here.0 d here.1 (same_bytes _ x (ap (name_of s) here.2 ∙ is)))
    (none_found (λ d. bytes_eq (name_of s d) x) live e)

-- no live device has the name
pub none_named : (s : Setup) (live : List Dev) (x : List ℕ) → ((d : Dev) → Contains live d → name_of s d ≢ x) → device_named s live x ≡ None
none_named s live x none = cases (device_named s live x) refl
  where
    cases : (o : Option Dev) → device_named s live x ≡ o → o ≡ None
    cases None e = refl
    cases (Some d) e = absurd (none d (named_there s live x d e) (named_so s live x d e))

-- the one that has the name is found
pub first_is : (s : Setup) (live : List Dev) (x : List ℕ) (y d : Dev) → HaveOwnNames s live → device_named s live x ≡ Some y → Contains live d → name_of s d ≡ x → d ≡ y
first_is s live x y d own e here is =
    elim (of_each (λ z. bytes_eq (name_of s z) x ≡ true → (z ≡ y) ⊎ (name_of s y ≢ name_of s z)) live d
    (first_found (λ z. bytes_eq (name_of s z) x) (λ a b. name_of s a ≢ name_of s b) live y own e) here (same_bytes (name_of s d) x is)) [
      | inl same ↦ same
      | inr apart ↦ absurd (apart (named_so s live x y e ∙ sym is))
    ]

pub named_is : (s : Setup) (live : List Dev) (x : List ℕ) (d : Dev) → HaveOwnNames s live → Contains live d → name_of s d ≡ x → device_named s live x ≡ Some d
named_is s live x d own here is = cases (device_named s live x) refl
  where
    cases : (o : Option Dev) → device_named s live x ≡ o → o ≡ Some d
    cases None e = absurd (unnamed s live x d e here is)
    cases (Some y) e = ap Some (sym (first_is s live x y d own e here is))

-- ---- a device of a serial

pub at_there : (live : List Dev) (n : ℕ) (d : Dev) → device_at live n ≡ Some d → Contains live d
at_there live n d e = found_contained (λ d. d.serial == n) live d e

pub at_serial : (live : List Dev) (n : ℕ) (d : Dev) → device_at live n ≡ Some d → d.serial ≡ n
at_serial live n d e = eqb-true d.serial n (find_true (λ d. d.serial == n) live d e)

pub at_is : (s : Setup) (live : List Dev) (d : Dev) → EachLater (IsApart s) live → Contains live d → device_at live d.serial ≡ Some d
at_is s live d apart here = cases (device_at live d.serial) refl
  where
    cases : (o : Option Dev) → device_at live d.serial ≡ o → o ≡ Some d
    cases None e =
        clash (list_any (λ e. e.serial == d.serial) live)
        (list_any_at (λ e. e.serial == d.serial) live here.0 d here.1 (eq-eqb _ d.serial (ap (λ (e : Dev). e.serial) here.2))) (none_found (λ e. e.serial == d.serial) live e)
    cases (Some y) e = ap Some (one_serial s live y d apart (at_there live d.serial y e) here (at_serial live d.serial y e))

-- ---- a parent's name

pub parent_named : (s : Setup) (live : List Dev) (p : ℕ) (d : Dev) → device_at live p ≡ Some d → parent_name s live p ≡ name_of s d
unfolding parent_name
parent_named s live p d e = ap (λ (o : Option Dev). option_map_or (name_of s) o root_name) e

pub parent_root : (s : Setup) (live : List Dev) (p : ℕ) → device_at live p ≡ None → parent_name s live p ≡ root_name
unfolding parent_name
parent_root s live p e = ap (λ (o : Option Dev). option_map_or (name_of s) o root_name) e

-- devices by whose serials the same names stand
pub parent_alike : (s : Setup) (live new : List Dev) (p : ℕ) → device_at new p ≡ device_at live p → parent_name s new p ≡ parent_name s live p
unfolding parent_name
parent_alike s live new p e = ap (λ (o : Option Dev). option_map_or (name_of s) o root_name) e

-- ---- a world's names

-- the name of a device ends in a digit, as `root` does not
unlike_root : (s : Setup) (d : Dev) → HasFormedDevices s.tables → d.row < length s.tables.rows → d.unit < 2 ^ 32 → name_of s d ≢ root_name
unfolding unit_name root_name
unlike_root s d formed row unit same =
    let at = there s.tables.devices (driver_of s d.row) (row_driver s d.row formed row) in
    let named : IsNamed at.0 = all_at IsNamed s.tables.devices (driver_of s d.row) at.0 formed.named at.1 in
    let is : driver_name s (driver_of s d.row) ≡ at.0.name = rw at.1 refl in
    let digit : ends_with_digit (at.0.name ++ decimal d.unit) ≡ true = (and_both (is_known_name (at.0.name ++ decimal d.unit)) _ (written_device at.0.name d.unit named.written unit)).1 in
    clash (ends_with_digit root_name) (subst (λ (n : List ℕ). ends_with_digit n ≡ true) same (rw is digit)) refl

pub record HasNames (s : Setup) (live : List Dev) (next : ℕ) : Type 0 where
  pub own : HaveOwnNames s live
  pub unlike_root : (d : Dev) → Contains live d → name_of s d ≢ root_name
  pub apart : EachLater (IsApart s) live
  pub placed : AllByRecursion (IsPlaced live next) live

pub world_names : (w : World) → MayRun w.setup → Kept w → HasNames w.setup w.live w.next
world_names w may kept =
    let formed : HasFormedDevices w.setup.tables = formed_devices w.setup.tables may.tables in
    record {
      own = names_own w.setup w.live formed kept.ranges.devices.rows kept.ranges.devices.units kept.sound.devices.apart;
      unlike_root = λ d here. unlike_root w.setup d formed (of_each (λ (e : Dev). e.row < length w.setup.tables.rows) w.live d kept.ranges.devices.rows here) (of_each (λ (e : Dev). e.unit < 2 ^ 32) w.live d kept.ranges.devices.units here);
      apart = kept.sound.devices.apart;
      placed = kept.sound.devices.placed;
    }
