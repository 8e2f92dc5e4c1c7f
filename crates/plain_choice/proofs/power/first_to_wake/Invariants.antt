use Rattle.std.proofs.Common.{◌≡◌, drop}
use Rattle.std.specs.Prelude.{find}
use Rattle.plain_choice.specs.Power.{has_to_wake}
use Rattle.run_rules.specs.Chains.{AllMiss}
use Rattle.plain_choice.proofs.power.first_to_wake.Given as goal

-- the device to find is among those that are left, and none that is kept aside is below the target
abbrev pub invariant-loop-device : goal.invariant-loop-device
invariant-loop-device l = record {
  left : find (has_to_wake l.live.devices l.target l.whole) (drop l.device-index l.among) ≡ find (has_to_wake l.live.devices l.target l.whole) l.among;
  aside : AllMiss l.live.devices l.target l.aside.kept;
}
