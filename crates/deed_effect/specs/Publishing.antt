-- The slot of a device that comes.
use Rattle.std.specs.Prelude.{◌≡◌, List, Some, None, Option, slice_get, slice_set, IfSome}
use Rattle.ref_ledger.specs.declared.state.SlotState.{SlotState}
use Rattle.ref_ledger.specs.declared.state.SlotState.TheVariants.{Free, Live}
use Rattle.run_rules.specs.declared.world.Arrival.{Arrival}

-- its slot is free before
abbrev pub SlotReady : Option Arrival → List SlotState → Type 0
SlotReady got states = IfSome got (λ a. slice_get states a.spot ≡ Some Free)

-- the states once it has come
abbrev pub published : Option Arrival → List SlotState → List SlotState
published None states = states
published (Some a) states = slice_set states a.spot Live
