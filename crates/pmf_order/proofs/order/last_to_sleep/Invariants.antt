use Rattle.run_rules.specs.Chains.{AllMiss}
use Rattle.run_rules.proofs.FromEnd.{IsLeft}
use Rattle.pmf_order.specs.Resting.{sleeps}
use Rattle.pmf_order.proofs.order.last_to_sleep.Given as goal

-- what is left has the device that is looked for, and each device noted is not under the target
abbrev pub invariant-loop-place : goal.invariant-loop-place
invariant-loop-place l = record {
  left : IsLeft (sleeps l.tree.live l.target) l.among l.place;
  noted : AllMiss l.tree.live l.target l.strangers.serials;
}
