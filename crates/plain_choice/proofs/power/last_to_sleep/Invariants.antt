use Rattle.run_rules.specs.Chains.{AllMiss}
use Rattle.run_rules.proofs.FromEnd.{IsLeft}
use Rattle.plain_choice.specs.Power.{has_to_sleep}
use Rattle.plain_choice.proofs.power.last_to_sleep.Given as goal

-- the device to find is among those that are left, and none that is kept aside is below the target
abbrev pub invariant-loop-place : goal.invariant-loop-place
invariant-loop-place l = record {
  left : IsLeft (has_to_sleep l.live.devices l.target) l.among l.place;
  aside : AllMiss l.live.devices l.target l.aside.kept;
}
