-- In formed tables two devices of different driver or unit print different names.
use Rattle.std.proofs.Common.{◌≡◌, ◌≢◌, ℕ, zero, suc, ◌-◌, ◌<◌, ◌^◌, true, false, not, ◌&&◌, ◌==◌, List, [], ◌∷◌, length, Some, slice_get, refl, sym, inl, inr, arith, eq-eqb}
use Rattle.std.specs.Char.{is_ascii_digit}
use Rattle.std.specs.List.{AllByRecursion}
use Rattle.std.proofs.lemmas.Bool.{cases_lt, not-true}
use Rattle.cf_types.proofs.TestLemmas.{clash}
use Rattle.cf_text.specs.Shapes.{ends_with_digit}
use Rattle.cf_types.specs.declared.tables.Device.{Device}
use Rattle.cf_types.specs.declared.tables.Row.{Row}
use Rattle.run_rules.specs.declared.world.Setup.{Setup}
use Rattle.run_rules.specs.declared.world.Dev.{Dev}
use Rattle.run_rules.specs.World.{driver_of, driver_name, unit_name, name_of}
use Rattle.run_rules.specs.Sound.{EachLater, IsApart, HaveOwnNames}
use Rattle.run_rules.specs.Formed.{IsNamed, HasFormedDevices}
use Rattle.run_rules.proofs.Devices.{all_both}
use Rattle.run_rules.proofs.FormedNames.{digit_test}
use Rattle.run_rules.proofs.NameParts.{EndsPlain, name_parts}

-- ---- lists

pub there : {A : Type 0} (xs : List A) (i : ℕ) → i < length xs → (x : A) × (slice_get xs i ≡ Some x)
there [] i lt = absurd (omega arith)
there (x ∷ xs) zero lt = (x, refl)
there (x ∷ xs) (suc i) lt = there xs i (omega arith)

pub all_at : {A : Type 0} (P : A → Type 0) (xs : List A) (i : ℕ) (x : A) → AllByRecursion P xs → slice_get xs i ≡ Some x → P x
all_at P [] i x h e = absurd cc
all_at P (y ∷ ys) zero x h e = let same : y ≡ x = cc in rw (← same) h.0
all_at P (y ∷ ys) (suc i) x h e = all_at P ys i x h.1 e

later_at : {A : Type 0} (R : A → A → Type 0) (xs : List A) (i j : ℕ) (x y : A) → EachLater R xs → i < j → slice_get xs i ≡ Some x → slice_get xs j ≡ Some y → R x y
later_at R [] i j x y h lt e f = absurd cc
later_at R (z ∷ zs) zero zero x y h lt e f = absurd (omega arith)
later_at R (z ∷ zs) zero (suc j) x y h lt e f = let same : z ≡ x = cc in rw (← same) (all_at (R z) zs j y h.0 f)
later_at R (z ∷ zs) (suc i) zero x y h lt e f = absurd (omega arith)
later_at R (z ∷ zs) (suc i) (suc j) x y h lt e f = later_at R zs i j x y h.1 (omega arith) e f

-- ---- names

pub ends_plain : (n : List ℕ) → ends_with_digit n ≡ false → EndsPlain n
ends_plain [] h = tt
ends_plain (b ∷ []) h = λ digit. clash (is_ascii_digit b) (digit_test b digit) h
ends_plain (b ∷ c ∷ bs) h =
    let last : length (b ∷ c ∷ bs) - 1 ≡ suc (length (c ∷ bs) - 1) = omega arith in
    ends_plain (c ∷ bs) (rw last at h)

driver_at : (s : Setup) (i : ℕ) (d : Device) → slice_get s.tables.devices i ≡ Some d → driver_name s i ≡ d.name
driver_at s i d e = rw e refl

-- one name, one driver
same_driver : (s : Setup) (i j : ℕ) → HasFormedDevices s.tables → i < length s.tables.devices → j < length s.tables.devices → driver_name s i ≡ driver_name s j → i ≡ j
same_driver s i j formed li lj e =
    let di = there s.tables.devices i li in
    let dj = there s.tables.devices j lj in
    let names : di.0.name ≡ dj.0.name = rw (driver_at s i di.0 di.1, driver_at s j dj.0 dj.1) at e in
    elim (cases_lt i j) [
      | inl less ↦ absurd (later_at (λ (d e : Device). d.name ≢ e.name) s.tables.devices i j di.0 dj.0 formed.apart less di.1 dj.1 names)
      | inr le ↦ elim (cases_lt j i) [
        | inl more ↦ absurd (later_at (λ (d e : Device). d.name ≢ e.name) s.tables.devices j i dj.0 di.0 formed.apart more dj.1 di.1 (sym names))
        | inr ge ↦ omega arith
      ]
    ]

-- the driver of a row is one of the devices
pub row_driver : (s : Setup) (r : ℕ) → HasFormedDevices s.tables → r < length s.tables.rows → driver_of s r < length s.tables.devices
row_driver s r formed lt =
    let row = there s.tables.rows r lt in
    rw row.1 (all_at (λ (q : Row). q.device < length s.tables.devices) s.tables.rows r row.0 formed.rows row.1)

plain_driver : (s : Setup) (i : ℕ) → HasFormedDevices s.tables → i < length s.tables.devices → EndsPlain (driver_name s i)
plain_driver s i formed lt =
    let d = there s.tables.devices i lt in
    rw d.1 (ends_plain d.0.name (not-true _ (all_at IsNamed s.tables.devices i d.0 formed.named d.1).plain_end))

apart_named : (s : Setup) (d e : Dev) → HasFormedDevices s.tables → d.row < length s.tables.rows → e.row < length s.tables.rows → d.unit < 2 ^ 32 → e.unit < 2 ^ 32
    → IsApart s d e → name_of s d ≢ name_of s e
unfolding unit_name
apart_named s d e formed rd re ud ue apart same =
    let ld = row_driver s d.row formed rd in
    let le = row_driver s e.row formed re in
    let parts = name_parts (driver_name s (driver_of s d.row)) (driver_name s (driver_of s e.row)) d.unit e.unit
    (plain_driver s (driver_of s d.row) formed ld) (plain_driver s (driver_of s e.row) formed le) (omega arith) (omega arith) same in
    let driver : driver_of s d.row ≡ driver_of s e.row = same_driver s (driver_of s d.row) (driver_of s e.row) formed ld le parts.0 in
    let one : (driver_of s d.row == driver_of s e.row) ≡ true = eq-eqb _ _ driver in
    let two : (d.unit == e.unit) ≡ true = eq-eqb _ _ parts.1 in
    clash (not (driver_of s d.row == driver_of s e.row && d.unit == e.unit)) apart.names (rw (one, two) refl)

pub names_own : (s : Setup) (live : List Dev) → HasFormedDevices s.tables → AllByRecursion (λ d. d.row < length s.tables.rows) live → AllByRecursion (λ d. d.unit < 2 ^ 32) live
    → EachLater (IsApart s) live → HaveOwnNames s live
names_own s [] formed rows units apart = tt
names_own s (d ∷ ds) formed rows units apart = (
  all_both (λ (e : Dev). (e.row < length s.tables.rows) × (e.unit < 2 ^ 32)) (IsApart s d) (λ e. name_of s d ≢ name_of s e)
      (λ e k a. apart_named s d e formed rows.0 k.0 units.0 k.1 a) ds
      (all_both (λ (e : Dev). e.row < length s.tables.rows) (λ (e : Dev). e.unit < 2 ^ 32) _ (λ e x y. (x, y)) ds rows.1 units.1) apart.0,
  names_own s ds formed rows.1 units.1 apart.1,
)
