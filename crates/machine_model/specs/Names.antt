-- Names in the order in which they come, found by slots.
use Rattle.std.specs.Prelude.{◌≡◌, ◌≤◌, ◌<◌, ◌-◌, ◌⊎◌, ℕ, if◌then◌else◌, List, length, Option, None, Some, bit_and, bytes_eq, position, slice_get, slice_index}
use Rattle.std.specs.Borrow.{Bor}
use Rattle.std.specs.Hash.FoldHasher as folding
use Rattle.machine_model.specs.declared.names.Names.{Names}
use Rattle.machine_model.specs.declared.names.TheConstants.{FREE}
use Rattle.machine_model.specs.NumberedNames.{AreInOrder}
use Rattle.machine_model.specs.NumberedNames as numbered

-- the slot of a name among so many
abbrev pub slot_of : ℕ → List ℕ → ℕ
slot_of count name = bit_and (folding.finish (folding.write folding.initial name)) (count - 1)

-- what the slot of a name holds
abbrev pub held : Names → List ℕ → ℕ
held names name = slice_index names.slots.items (slot_of (length names.slots.items) name)

-- the number of the name that a slot holds if it is this name, else the one that is found elsewhere
abbrev pub number_if : List ℕ → ℕ → Option ℕ → Option (Bor (List ℕ)) → Option ℕ
number_if name number elsewhere (Some other) = if bytes_eq other.now name then Some number else elsewhere
number_if name number elsewhere None = None

-- the number of a name: that of its slot, or else the one among the rest
abbrev pub number_of : Names → List ℕ → Option ℕ
number_of names name = number_if name (held names name) (numbered.number_in names.rest.items name) (slice_get names.names.items (held names name))

-- a slot is free or holds the number of a name; a name whose slot is free is not among the rest
pub record HaveSlots (names : Names) : Type 0 where
  pub some_slots : 1 ≤ length names.slots.items
  pub within : (q : List ℕ) → (held names q < length names.names.items) ⊎ (held names q ≡ FREE)
  pub free : (q : List ℕ) → held names q ≡ FREE → numbered.number_in names.rest.items q ≡ None

-- for each of these names there is the number of the first that is the same, and none for another
pub record HaveNames (names : Names) (list : List (List ℕ)) : Type 0 where
  pub slots : HaveSlots names
  pub count : length names.names.items ≡ length list
  pub each : (q : List ℕ) → number_of names q ≡ position (λ n. bytes_eq n q) list

-- and the rest stands in order
pub record AreNames (names : Names) (list : List (List ℕ)) : Type 0 where
  pub have : HaveNames names list
  pub order : AreInOrder names.rest.items
