-- What a board keeps of its devices, where some are marked and where one is gone.
use Rattle.std.proofs.Common.{◌≡◌, ℕ, Bool, true, false, not, ◌&&◌, ◌||◌, ◌==◌, cond, List, [], ◌∷◌, map, filter, Some, None, refl, sym, ◌∙◌, ap, subst, arith, eq-eqb}
use Rattle.std.specs.List.{AllByRecursion}
use Rattle.std.proofs.Math.Bool.{or-true}
use Rattle.std.proofs.lemmas.Bool.{eqb-true, not-true}
use Rattle.std.proofs.lemmas.Option.{same_Some}
use Rattle.cf_types.specs.declared.tables.Row.{Row}
use Rattle.run_rules.specs.declared.world.Setup.{Setup}
use Rattle.run_rules.specs.declared.world.Dev.{Dev}
use Rattle.run_rules.specs.World.{driver_of, device_at, is_live}
use Rattle.run_rules.specs.Search.{is_taken, is_live_row}
use Rattle.run_rules.specs.Sound.{EachLater, IsApart}
use Rattle.run_rules.proofs.Below.{and_both}
use Rattle.run_rules.proofs.Devices.{found_in}
use Rattle.run_rules.proofs.Free.{find_true}
use Rattle.unit_alloc.specs.Taken.{GivenBack}
use Rattle.match_search.specs.Best.{live_rows}
use Rattle.dev_tree.proofs.Alike.{SamePlain}
use Rattle.run_sound.proofs.Callers.{clash}
use Rattle.match_search.specs.Fixed.{hits, rows_set}
use Rattle.run_world.specs.UnitsOf.{AreUnitsOf}
use Rattle.deed_effect.proofs.MarkLaws.{marks_by}

-- ---- devices are marked: rows and units stay

taken_marked : (s : Setup) (f : Dev → Dev) → ((d : Dev) → SamePlain d (f d)) → (live : List Dev) (device n : ℕ) → is_taken s (map f live) device n ≡ is_taken s live device n
taken_marked s f same [] device n = refl
taken_marked s f same (d ∷ ds) device n =
    let row : (f d).row ≡ d.row = sym (ap (λ (e : Dev). e.row) (same d)) in
    let unit : (f d).unit ≡ d.unit = sym (ap (λ (e : Dev). e.unit) (same d)) in
    rw (row, unit, taken_marked s f same ds device n) refl

rows_marked : (s : Setup) (f : Dev → Dev) → ((d : Dev) → SamePlain d (f d)) → (live : List Dev) (rows : List Row) → map (is_live_row s (map f live)) rows ≡ map (is_live_row s live) rows
rows_marked s f same live [] = refl
rows_marked s f same live (r ∷ rs) = rw (taken_marked s f same live r.device r.unit, rows_marked s f same live rs) refl

pub marks_marked : (s : Setup) (f : Dev → Dev) → ((d : Dev) → SamePlain d (f d)) → (live : List Dev) (marks : List Bool) → marks ≡ live_rows s live → marks ≡ live_rows s (map f live)
marks_marked s f same live marks e = e ∙ sym (rows_marked s f same live s.tables.rows)

pub units_marked : (s : Setup) (f : Dev → Dev) → ((d : Dev) → SamePlain d (f d)) → (live : List Dev) (units : List (List ℕ)) → AreUnitsOf s live units → AreUnitsOf s (map f live) units
units_marked s f same live units are = record { devices = are.devices; taken = λ d n. are.taken d n ∙ sym (taken_marked s f same live d n) }

-- ---- a device is gone

abbrev pub without : List Dev → ℕ → List Dev
without live s = filter (λ d. not (d.serial == s)) live

abbrev has_unit : Setup → Dev → ℕ → ℕ → Bool
has_unit s d device n = driver_of s d.row == device && d.unit == n

-- two devices don't have the same unit
units_apart : (s : Setup) (d e : Dev) (device n : ℕ) → IsApart s d e → has_unit s d device n ≡ true → has_unit s e device n ≡ false
units_apart s d e device n apart h = cases (has_unit s e device n) refl
  where
    cases : (b : Bool) → has_unit s e device n ≡ b → b ≡ false
    cases false k = refl
    cases true k =
        let own = and_both (driver_of s d.row == device) (d.unit == n) h in
        let its = and_both (driver_of s e.row == device) (e.unit == n) k in
        let driver : driver_of s d.row ≡ driver_of s e.row = eqb-true (driver_of s d.row) device own.0 ∙ sym (eqb-true (driver_of s e.row) device its.0) in
        let unit : d.unit ≡ e.unit = eqb-true d.unit n own.1 ∙ sym (eqb-true e.unit n its.1) in
        clash (driver_of s d.row == driver_of s e.row && d.unit == e.unit)
        (rw (eq-eqb (driver_of s d.row) (driver_of s e.row) driver, eq-eqb d.unit e.unit unit) refl)
        (not-true (driver_of s d.row == driver_of s e.row && d.unit == e.unit) apart.names)

none_has : (s : Setup) (d : Dev) (ds : List Dev) (device n : ℕ) → AllByRecursion (IsApart s d) ds → has_unit s d device n ≡ true → is_taken s ds device n ≡ false
none_has s d [] device n h e = refl
none_has s d (x ∷ xs) device n h e = rw (units_apart s d x device n h.0 e, none_has s d xs device n h.1 e) refl

pub later_stay : (s : Setup) (d : Dev) (ds : List Dev) → AllByRecursion (IsApart s d) ds → without ds d.serial ≡ ds
later_stay s d [] h = refl
later_stay s d (e ∷ es) h = cases (later_stay s d es h.1) (e.serial == d.serial) refl
  where
    cases : without es d.serial ≡ es → (b : Bool) → (e.serial == d.serial) ≡ b → cond (not b) (e ∷ without es d.serial) (without es d.serial) ≡ e ∷ es
    cases more true k = absurd (omega (arith, eqb-true e.serial d.serial k, h.0.later))
    cases more false k = ap (λ (ds : List Dev). e ∷ ds) more

taken_gone : (s : Setup) (live : List Dev) (x : Dev) (device n : ℕ) → EachLater (IsApart s) live → device_at live x.serial ≡ Some x
    → is_taken s (without live x.serial) device n ≡ (not (has_unit s x device n) && is_taken s live device n)
taken_gone s [] x device n h e = absurd cc
taken_gone s (d ∷ ds) x device n h e = cases (λ k. taken_gone s ds x device n h.1 k) (d.serial == x.serial) refl e
  where
    gone : (b : Bool) → has_unit s d device n ≡ b → is_taken s ds device n ≡ (not b && (b || is_taken s ds device n))
    gone true k = none_has s d ds device n h.0 k
    gone false k = refl

    stays : IsApart s d x → (own its : Bool) → has_unit s d device n ≡ own → has_unit s x device n ≡ its
        → (own || (not its && is_taken s ds device n)) ≡ (not its && (own || is_taken s ds device n))
    stays apart true true a b = clash (has_unit s x device n) b (units_apart s d x device n apart a)
    stays apart true false a b = refl
    stays apart false its a b = refl

    cases : (device_at ds x.serial ≡ Some x → is_taken s (without ds x.serial) device n ≡ (not (has_unit s x device n) && is_taken s ds device n))
        → (b : Bool) → (d.serial == x.serial) ≡ b → cond b (Some d) (device_at ds x.serial) ≡ Some x
        → is_taken s (cond (not b) (d ∷ without ds x.serial) (without ds x.serial)) device n ≡ (not (has_unit s x device n) && (has_unit s d device n || is_taken s ds device n))
    cases more true k found =
        let same : d ≡ x = same_Some d x found in
        subst (λ (y : Dev). is_taken s (without ds y.serial) device n ≡ (not (has_unit s y device n) && (has_unit s d device n || is_taken s ds device n))) same
        (ap (λ (es : List Dev). is_taken s es device n) (later_stay s d ds h.0) ∙ gone (has_unit s d device n) refl)
    cases more false k found =
        ap (λ b. has_unit s d device n || b) (more found)
        ∙ stays (found_in (IsApart s d) (λ e. e.serial == x.serial) ds x h.0 found) (has_unit s d device n) (has_unit s x device n) refl refl

units_without : (s : Setup) (live : List Dev) (x : Dev) (old new : List (List ℕ)) → EachLater (IsApart s) live → device_at live x.serial ≡ Some x
    → AreUnitsOf s live old → GivenBack old new (driver_of s x.row) x.unit → AreUnitsOf s (without live x.serial) new
units_without s live x old new apart at was less = record {
  devices = less.devices ∙ was.devices;
  taken = λ d n. less.taken d n ∙ ap (λ b. not (has_unit s x d n) && b) (was.taken d n) ∙ sym (taken_gone s live x d n apart at);
}

live_again : (star taken same own : Bool) → cond (not star && (same && own)) true (star || not taken) ≡ (star || not (not (same && own) && taken))
live_again true taken same own = refl
live_again false taken true true = refl
live_again false taken true false = refl
live_again false taken false own = refl

marks_without : (s : Setup) (live : List Dev) (x : Dev) (old new : List Bool) → EachLater (IsApart s) live → device_at live x.serial ≡ Some x
    → old ≡ live_rows s live → new ≡ rows_set s.tables.rows old (driver_of s x.row) x.unit true → new ≡ live_rows s (without live x.serial)
marks_without s live x old new apart at = marks_by s live (without live x.serial) (driver_of s x.row) x.unit true old new each
  where
    each : (r : Row) → cond (hits r (driver_of s x.row) x.unit) true (is_live_row s live r) ≡ is_live_row s (without live x.serial) r
    each r = rw (taken_gone s live x r.device r.unit apart at) (live_again r.star (is_taken s live r.device r.unit) (driver_of s x.row == r.device) (x.unit == r.unit))

-- a live device is found, and its unit is taken
pub found_there : (live : List Dev) (s : ℕ) → is_live live s ≡ true → device_at live s ≡ None → ⊥
found_there [] s h e = cc
found_there (d ∷ ds) s h e = cases (λ a b. found_there ds s a b) (d.serial == s) h e
  where
    cases : (is_live ds s ≡ true → device_at ds s ≡ None → ⊥) → (b : Bool) → (b || is_live ds s) ≡ true → cond b (Some d) (device_at ds s) ≡ None → ⊥
    cases more true k f = cc
    cases more false k f = more k f

pub serial_found : (live : List Dev) (s : ℕ) (x : Dev) → device_at live s ≡ Some x → x.serial ≡ s
serial_found live s x e = eqb-true x.serial s (find_true (λ d. d.serial == s) live x e)

pub unit_found : (s : Setup) (live : List Dev) (of : ℕ) (x : Dev) → device_at live of ≡ Some x → is_taken s live (driver_of s x.row) x.unit ≡ true
unit_found s [] of x e = absurd cc
unit_found s (d ∷ ds) of x e = cases (λ k. unit_found s ds of x k) (d.serial == of) e
  where
    cases : (device_at ds of ≡ Some x → is_taken s ds (driver_of s x.row) x.unit ≡ true) → (b : Bool) → cond b (Some d) (device_at ds of) ≡ Some x
        → (has_unit s d (driver_of s x.row) x.unit || is_taken s ds (driver_of s x.row) x.unit) ≡ true
    cases more true k =
        let same : d ≡ x = same_Some d x k in
        rw (eq-eqb (driver_of s d.row) (driver_of s x.row) (ap (λ (y : Dev). driver_of s y.row) same), eq-eqb d.unit x.unit (ap (λ (y : Dev). y.unit) same)) refl
    cases more false k = rw (more k) (or-true (has_unit s d (driver_of s x.row) x.unit))

pub units_gone : (s : Setup) (live : List Dev) (of : ℕ) (x : Dev) (old new : List (List ℕ)) → EachLater (IsApart s) live → device_at live of ≡ Some x
    → AreUnitsOf s live old → GivenBack old new (driver_of s x.row) x.unit → AreUnitsOf s (without live of) new
units_gone s live of x old new apart at was less =
    subst (λ (n : ℕ). device_at live n ≡ Some x → AreUnitsOf s (without live n) new) (serial_found live of x at) (λ k. units_without s live x old new apart k was less) at

pub marks_gone : (s : Setup) (live : List Dev) (of : ℕ) (x : Dev) (old new : List Bool) → EachLater (IsApart s) live → device_at live of ≡ Some x
    → old ≡ live_rows s live → new ≡ rows_set s.tables.rows old (driver_of s x.row) x.unit true → new ≡ live_rows s (without live of)
marks_gone s live of x old new apart at was is =
    subst (λ (n : ℕ). device_at live n ≡ Some x → new ≡ live_rows s (without live n)) (serial_found live of x at) (λ k. marks_without s live x old new apart k was is) at
