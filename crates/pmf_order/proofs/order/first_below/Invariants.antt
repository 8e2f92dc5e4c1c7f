use Rattle.std.proofs.Common.{◌≡◌, drop}
use Rattle.std.specs.Prelude.{find}
use Rattle.pmf_order.specs.Resting.{wakes_below}
use Rattle.run_rules.specs.Chains.{AllMiss}
use Rattle.pmf_order.proofs.order.first_below.Given as goal

-- what is left has the device that is looked for, and each device noted is not under the target
abbrev pub invariant-loop-device : goal.invariant-loop-device
invariant-loop-device l = record {
  left : find (wakes_below l.tree.live l.target l.above) (drop l.device-index l.among) ≡ find (wakes_below l.tree.live l.target l.above) l.among;
  noted : AllMiss l.tree.live l.target l.strangers.serials;
}
