-- Who holds each device, as masks: bit k-1 stands for caller k.
use Rattle.std.specs.Prelude.{◌≡◌, ℕ, ◌-◌, ◌*◌, ◌^◌, ◌%◌, ◌<◌, ◌≤◌, Bool, ◌&&◌, ◌==◌, nat_lt, if◌then◌else◌, List, length, find, bit_and, bit_or}
use Rattle.std.specs.Int.{bit_at, bit_not, w16}
use Rattle.std.specs.List.{AllWithin, slice_index_or}
use Rattle.std.specs.Option.{option_map_or}
use Rattle.run_rules.specs.declared.world.Ref.{Ref}
use Rattle.run_rules.specs.References.{holder_mask}
use Rattle.run_rules.specs.Sound.{EachLater}
use Rattle.ref_ledger.specs.Refs.{IsKept}
use Rattle.ref_ledger.specs.declared.masks.Mask.{Mask}

-- the bit of a caller from 1 to 16
abbrev pub bit_of : ℕ → ℕ
bit_of caller = 1 * 2 ^ (caller - 1) % 2 ^ 16

abbrev pub with_caller : ℕ → ℕ → ℕ
with_caller callers caller = bit_or callers (bit_of caller)

abbrev pub without_caller : ℕ → ℕ → ℕ
without_caller callers caller = bit_and callers (bit_not w16 (bit_of caller))

-- whether a mask has a caller from 1 to 16
abbrev pub has_caller : ℕ → ℕ → Bool
has_caller callers caller = nat_lt 0 caller && nat_lt caller 17 && (bit_at callers (caller - 1) == 1)

-- each serial is below all later ones
abbrev pub AreBySerial : List Mask → Type 0
AreBySerial masks = EachLater (λ m n. m.serial < n.serial) masks

-- the mask of a device; 0 if it has none
abbrev pub mask_in : List Mask → ℕ → ℕ
mask_in masks s = option_map_or (λ m. m.callers) (find (λ m. m.serial == s) masks) 0

-- the masks before the place are of earlier devices, and those from it on of none that is earlier
pub record IsPlace (masks : List Mask) (s place : ℕ) : Type 0 where
  pub within : place ≤ length masks
  pub before : AllWithin (λ m. m.serial < s) masks 0 place
  pub from : AllWithin (λ m. s ≤ m.serial) masks place (length masks)

-- the mask at the place is that of the device
pub record IsOwn (masks : List Mask) (s place : ℕ) : Type 0 where
  pub within : place < length masks
  pub own : (d : Mask) → (slice_index_or masks place d).serial ≡ s

-- the device has no mask; those before the place are of earlier devices, and those from it on of later ones
pub record IsGap (masks : List Mask) (s place : ℕ) : Type 0 where
  pub within : place ≤ length masks
  pub before : AllWithin (λ m. m.serial < s) masks 0 place
  pub after : AllWithin (λ m. s < m.serial) masks place (length masks)

-- the device has this mask, and each other one the mask that it had
pub record IsWritten (old : List Mask) (s callers : ℕ) (new : List Mask) : Type 0 where
  pub order : AreBySerial new
  pub told : (t : ℕ) → mask_in new t ≡ if s == t then callers else mask_in old t

-- the masks tell who holds each device
pub record AreMasksOf (refs : List Ref) (masks : List Mask) : Type 0 where
  pub order : AreBySerial masks
  pub told : (s : ℕ) → mask_in masks s ≡ holder_mask refs s

-- what the references keep, and that the masks are theirs
pub record IsIndexed (refs : List Ref) (sole : List ℕ) (masks : List Mask) : Type 0 where
  pub kept : IsKept refs sole
  pub indexed : AreMasksOf refs masks
