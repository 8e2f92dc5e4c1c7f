-- The units that are taken are those of the live devices, before any device and once one more has come; and the least one.
use Rattle.std.proofs.Common.{◌≡◌, ◌<◌, ◌≤◌, ◌+◌, ◌-◌, ℕ, Bool, true, false, not, ◌&&◌, ◌||◌, ◌==◌, List, [], ◌∷◌, ◌++◌, length, Some, None, slice_get, refl, sym, ◌∙◌, ap, arith}
use Rattle.std.specs.List.{count_by}
use Rattle.std.proofs.Math.Bool.{or-false}
use Rattle.std.proofs.lemmas.List.Folds.{list_any-append}
use Rattle.cf_types.specs.Numbers.{below}
use Rattle.cf_types.specs.declared.tables.Row.{Row}
use Rattle.run_rules.specs.declared.world.Setup.{Setup}
use Rattle.run_rules.specs.declared.world.Dev.{Dev}
use Rattle.run_rules.specs.World.{driver_of}
use Rattle.run_rules.specs.Search as rule
use Rattle.run_rules.proofs.Units.{free_after_is, units_few}
use Rattle.unit_alloc.specs.Taken as alloc
use Rattle.unit_alloc.specs.Taken.{GivenBack, IsLeastFree, NoneTaken, PassesFew, TakenToo}
use Rattle.std.proofs.lemmas.Bool.{eqb-true}
use Rattle.run_rules.proofs.Below.{and_both}
use Rattle.unit_alloc.proofs.FreeLaws.{all_pass}
use Rattle.run_world.specs.UnitsOf.{AreUnitsOf}

-- before any device none is taken
pub first_units : (s : Setup) (units : List (List ℕ)) → NoneTaken (length s.tables.devices) units → AreUnitsOf s [] units
first_units s units none = record { devices = none.devices; taken = none.none }

-- ---- one device more, and one that did not come after all

pub more_units : (s : Setup) (live : List Dev) (d : Dev) (old new : List (List ℕ)) → AreUnitsOf s live old → TakenToo old new (driver_of s d.row) d.unit
    → AreUnitsOf s (live ++ d ∷ []) new
more_units s live d old new was more = record { devices = more.devices ∙ was.devices; taken = taken }
  where
    taken : (device n : ℕ) → alloc.is_taken new device n ≡ rule.is_taken s (live ++ d ∷ []) device n
    taken device n =
        more.taken device n
        ∙ ap (λ b. b || (driver_of s d.row == device && d.unit == n)) (was.taken device n)
        ∙ ap (λ b. rule.is_taken s live device n || b) (sym (or-false (driver_of s d.row == device && d.unit == n)))
        ∙ sym (list_any-append (λ e. driver_of s e.row == device && e.unit == n) live (d ∷ []))

pub same_units : (s : Setup) (live : List Dev) (old mid new : List (List ℕ)) (device unit : ℕ) → AreUnitsOf s live old → alloc.is_taken old device unit ≡ false
    → TakenToo old mid device unit → GivenBack mid new device unit → AreUnitsOf s live new
same_units s live old mid new device unit was free more less = record {
  devices = less.devices ∙ more.devices ∙ was.devices;
  taken = λ d n. less.taken d n ∙ ap (λ b. not (device == d && unit == n) && b) (more.taken d n) ∙ back d n ∙ was.taken d n;
}
  where
    clash : (b : Bool) → b ≡ true → b ≡ false → ⊥
    clash b is isnt = absurd cc

    cases : (d n : ℕ) (same : Bool) → (device == d && unit == n) ≡ same → (not same && (alloc.is_taken old d n || same)) ≡ alloc.is_taken old d n
    cases d n true e =
        let both = and_both (device == d) (unit == n) e in
        sym (rw (← eqb-true device d both.0, ← eqb-true unit n both.1) free)
    cases d n false e = or-false (alloc.is_taken old d n)

    back : (d n : ℕ) → (not (device == d && unit == n) && (alloc.is_taken old d n || (device == d && unit == n))) ≡ alloc.is_taken old d n
    back d n = cases d n (device == d && unit == n) refl

-- ---- the least unit

pub few_taken : (s : Setup) (live : List Dev) (units : List (List ℕ)) (device : ℕ) → AreUnitsOf s live units → length live ≤ 1024 → PassesFew (alloc.is_taken units device)
few_taken s live units device are few n = omega (arith, units_few s live device n (alloc.is_taken units device) (are.taken device), few)

pub pick_is : (s : Setup) (live : List Dev) (units : List (List ℕ)) (device first unit : ℕ) → AreUnitsOf s live units → IsLeastFree (alloc.is_taken units device) first unit
    → first + rule.free_after s live device first ≡ unit
pick_is s live units device first unit are is =
    let near : unit ≤ count_by (alloc.is_taken units device) (below unit) + first = all_pass (alloc.is_taken units device) first unit is.least in
    let few : count_by (alloc.is_taken units device) (below unit) ≤ length live = units_few s live device unit (alloc.is_taken units device) (are.taken device) in
    let there : first + (unit - first) ≡ unit = omega (arith, is.from_first) in
    let free : rule.is_taken s live device (first + (unit - first)) ≡ false = ap (rule.is_taken s live device) there ∙ sym (are.taken device unit) ∙ is.free in
    let before : (q : ℕ) → q < unit - first → rule.is_taken s live device (first + q) ≡ true =
    λ q less. sym (are.taken device (first + q)) ∙ is.least (first + q) (omega arith) (omega (arith, less)) in
    ap (λ k. first + k) (free_after_is s live device first (unit - first) (omega (arith, near, few)) free before) ∙ there

-- ---- the unit that a row gives

pub star_unit : (s : Setup) (live : List Dev) (r : ℕ) (row : Row) → slice_get s.tables.rows r ≡ Some row → row.star ≡ true
    → rule.unit_of s live r ≡ row.unit + rule.free_after s live row.device row.unit
unfolding rule.unit_of
star_unit s live r row at star = rw (at, star) refl

pub own_unit : (s : Setup) (live : List Dev) (r : ℕ) (row : Row) → slice_get s.tables.rows r ≡ Some row → row.star ≡ false → rule.unit_of s live r ≡ row.unit
unfolding rule.unit_of
own_unit s live r row at star = rw (at, star) refl

pub no_unit : (s : Setup) (live : List Dev) (r : ℕ) → slice_get s.tables.rows r ≡ None → rule.unit_of s live r ≡ 0
unfolding rule.unit_of
no_unit s live r at = rw at refl
