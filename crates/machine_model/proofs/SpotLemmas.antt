-- The first code of a spot, its values and its depth.
use Rattle.std.proofs.Common.{◌≡◌, ℕ, zero, suc, ◌+◌, ◌<◌, ◌≤◌, length, get_or, drop, map, not, bytes_eq, Bool, true, false, Option, Some, None, List, [], ◌∷◌, refl, ap, sym, ◌∙◌, add-one, arith}
use Rattle.std.specs.Prelude.{All, is_none, option_and_then, slice_get}
use Rattle.std.specs.List.{list_any}
use Rattle.std.proofs.lemmas.List.{drop_more}
use Rattle.cf_types.specs.declared.code.machine.TheConstants.{OUT_OF_RANGE, UNKNOWN_LOCATOR}
use Rattle.cf_types.specs.declared.tables.Locator.{Locator}
use Rattle.std.specs.Option.{option_map_or}
use Rattle.cf_types.specs.declared.machine.Spot.{Spot}
use Rattle.cf_types.specs.declared.tables.Attr.{Attr}
use Rattle.cf_types.specs.declared.tables.Tables.{Tables}
use Rattle.cf_types.specs.declared.tables.Place.{Place}
use Rattle.cf_types.specs.declared.tables.Place.TheVariants.{Root, At}
use Rattle.cf_types.specs.Locators.{locators_at}
use Rattle.config_rules.specs.Form.{given, ◌or◌}
use Rattle.config_rules.specs.Formed.{CountedTables}
use Rattle.config_rules.specs.MachineText.{depth_of, found_fault, spot_locators, spot_place}
use Rattle.machine_model.specs.declared.locator.FoundValue.{FoundValue}
use Rattle.machine_model.specs.Found.{given_of}
pub use Rattle.config_rules.proofs.MachineLaws.{depth_none}

-- ---- one code after the other

pub past : (b : Bool) (code : ℕ) (more : Option ℕ) → b ≡ false → more ≡ (given b code or more)
past true code more h = absurd (cc)
past false code more h = refl

pub here : (b : Bool) (code : ℕ) (more : Option ℕ) → b ≡ true → Some code ≡ (given b code or more)
here true code more h = refl
here false code more h = absurd (cc)

pub last : (b : Bool) (code : ℕ) → b ≡ true → Some code ≡ given b code
last true code h = refl
last false code h = absurd (cc)

pub none : (b : Bool) (code : ℕ) → b ≡ false → None ≡ given b code
none true code h = absurd (cc)
none false code h = refl

-- codes in two parts
pub in_parts : (a b c rest : Option ℕ) → (a or (b or (c or rest))) ≡ ((a or (b or c)) or rest)
in_parts (Some x) b c rest = refl
in_parts None (Some y) c rest = refl
in_parts None None c rest = refl

-- what is left of the values that were found, by the first of them and by whether there is a locator of its name
pub found_next : (locs : List Locator) (found : List FoundValue) (i : ℕ) (value : FoundValue) {known : Bool} → i < length found → value ≡ get_or found i value
    → known ≡ list_any (λ l. bytes_eq l.name value.name.now) locs
    → (given (not known) UNKNOWN_LOCATOR or (given (is_none value.value) OUT_OF_RANGE or found_fault locs (map given_of (drop (i + 1) found)))) ≡ found_fault locs (map given_of (drop i found))
found_next locs found i value h is there =
    ap (λ b. given (not b) UNKNOWN_LOCATOR or (given (is_none value.value) OUT_OF_RANGE or found_fault locs (map given_of (drop (i + 1) found)))) there
    ∙ ap (λ vs. found_fault locs (map given_of vs)) (ap (λ v. v ∷ drop (i + 1) found) is ∙ sym (drop_more found i value h))

-- ---- depths

pub depth_some : (n m : ℕ) (spots : List Spot) (x : ℕ) → n ≡ m + 1 → depth_of n spots (Some x) ≡ depth_of m spots (option_and_then (λ s. s.parent) (slice_get spots x)) + 1
depth_some zero m spots x e = absurd (omega arith)
depth_some (suc n) m spots x e =
    let k : n ≡ m = omega arith in
    ap (λ i. suc (depth_of i spots (option_and_then (λ s. s.parent) (slice_get spots x)))) k ∙ sym (add-one (depth_of m spots (option_and_then (λ s. s.parent) (slice_get spots x))))

pub depth_zero : (n : ℕ) (spots : List Spot) (above : Option ℕ) → n ≤ 0 → depth_of n spots above ≡ 1
depth_zero zero spots above h = refl
depth_zero (suc n) spots above h = absurd (omega arith)

-- ---- locators

few_at : (attrs : List Attr) → All (λ a. length a.locs ≤ 16) attrs → (n : ℕ) → length (option_map_or (λ x. x.locs) (slice_get attrs n) []) ≤ 16
few_at [] h n = omega arith
few_at (a ∷ attrs) h zero = h 0 a (omega arith)
few_at (a ∷ attrs) h (suc n) = few_at attrs (λ k d p. h (suc k) d (omega arith)) n

few_there : (t : Tables) → CountedTables t → (place : Option Place) → length (option_map_or (locators_at t.attrs) place []) ≤ 16
few_there t h None = omega arith
few_there t h (Some Root) = omega arith
few_there t h (Some (At a)) = few_at t.attrs h.locators a

pub few_locators : (t : Tables) → CountedTables t → (parent attr : List ℕ) → length (spot_locators t parent attr) ≤ 16
few_locators t h parent attr = few_there t h (spot_place t parent attr)
