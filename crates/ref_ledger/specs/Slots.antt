-- What a burial does to the states of the slots, and to the denials. All of it is this project's profile.
use Rattle.std.specs.Prelude.{◌≡◌, ◌≢◌, ◌<◌, ℕ, List, Option, Some, slice_set}
use Rattle.ref_ledger.specs.Token.{Token}
use Rattle.ref_ledger.specs.declared.state.SlotState.{SlotState}
use Rattle.ref_ledger.specs.declared.state.SlotState.TheVariants.{Free}
use Rattle.ref_ledger.specs.declared.buried.Bury.{Bury}
use Rattle.ref_ledger.specs.declared.buried.Bury.TheVariants as bury

-- a denied burial: the slot, and who held it, bit k-1 for caller k
pub record Denial : Type 0 where
  pub slot : ℕ
  pub mask : ℕ

-- the slot is free, and the token names it; or no state changed
abbrev pub Answers : ℕ → List SlotState → Bury → List SlotState → Type 0
Answers slot old (bury.Buried token) new = (new ≡ slice_set old slot Free) × (token.slot ≡ slot)
Answers slot old (bury.Held mask) new = new ≡ old

-- a denial is counted, and is the last one then: of this slot, with this mask, in which somebody stands
abbrev pub Denies : ℕ → ℕ → Option Denial → Bury → ℕ → Option Denial → Type 0
Denies slot denied last (bury.Buried token) denies newest = (denies ≡ denied) × (newest ≡ last)
Denies slot denied last (bury.Held mask) denies newest = (denied < denies) × (newest ≡ Some (record { slot = slot; mask = mask })) × (mask ≢ 0)

-- the slot was freed, with this token
abbrev pub IsBuriedAs : Token → Bury → Type 0
IsBuriedAs t (bury.Buried token) = token ≡ t
IsBuriedAs t (bury.Held mask) = ⊥
