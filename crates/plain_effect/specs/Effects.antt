-- Which deeds take no memory, and what place a deed has in the boot's list.
use Rattle.std.specs.Prelude.{◌<◌, ◌-◌, ◌^◌, ⊤, ℕ, Bool, true, false, IfSome}
use Rattle.run_rules.specs.declared.world.Arrival.{Arrival}
use Rattle.run_rules.specs.declared.world.Setup.{Setup}
use Rattle.run_rules.specs.After.{scan_placed}
use Rattle.run_rules.specs.World.{World, offered_by, policy_of}
use Rattle.run_rules.specs.declared.deed.Deed.{Deed}
use Rattle.run_rules.specs.declared.deed.Deed.TheVariants.{Finalise, EndCaller, Drop, Refuse, Close, Start, Done, Free, BeginPower, Sleep, Wake, EndPower, Plug, Tell}

-- the deeds that take no memory
abbrev pub is_quiet : Deed → Bool
is_quiet EndCaller = true
is_quiet (Drop of) = true
is_quiet (Refuse why) = true
is_quiet (Close of) = true
is_quiet (Start ticket) = true
is_quiet (Done ticket) = true
is_quiet (Free of) = true
is_quiet (BeginPower kind of) = true
is_quiet (Sleep of) = true
is_quiet (Wake of) = true
is_quiet (EndPower end) = true
is_quiet (Plug spot) = true
is_quiet Tell = true
is_quiet _ = false

-- a finaliser of the boot's list has a place there that may be counted on
abbrev pub HasPlace : Deed → Type 0
HasPlace (Finalise of shown got listed anew) = IfSome listed (λ place. place < 2 ^ 64 - 1)
HasPlace _ = ⊤

-- the scan of the device of this serial goes where the policy and what the device offers say, by this setup
abbrev pub with_scan : Setup → World → ℕ → ℕ → Arrival → Bool → World
with_scan s w k serial a may_defer = scan_placed (policy_of s a.row) (offered_by s a.row) w k a.parent serial may_defer
