use Rattle.std.proofs.Common.{◌≡◌, map, take}
use Rattle.cf_types.specs.Policies.{no_policy}
use Rattle.machine_model.proofs.machine.no_policies.Given as goal

abbrev pub invariant-loop-attach : goal.invariant-loop-attach
invariant-loop-attach l = l.policies ≡ map (λ a. no_policy) (take l._attach-index l.attaches)
