-- When slots agree with the live devices: this project's profile.
use Rattle.std.specs.Prelude.{ℕ, List, map, length, if◌then◌else◌}
use Rattle.std.specs.Option.{option_map_or}
use Rattle.ref_ledger.specs.declared.state.SlotState.{SlotState}
use Rattle.ref_ledger.specs.declared.state.SlotState.TheVariants.{Free, Live, Condemned}
use Rattle.run_rules.specs.declared.world.Dev.{Dev}
use Rattle.run_rules.specs.World.{World, device_on, is_condemned}
use Rattle.cf_types.specs.Numbers.{below}

-- the state that a spot's slot has to have: free without a device, and else live or condemned as the device is
abbrev pub state_at : List Dev → ℕ → SlotState
state_at live x = option_map_or (λ d. if is_condemned d then Condemned else Live) (device_on live x) Free

-- the states of all slots, one for each spot
unfoldable pub slots_of : World → List SlotState
slots_of w = map (state_at w.live) (below (length w.setup.machine.spots))
