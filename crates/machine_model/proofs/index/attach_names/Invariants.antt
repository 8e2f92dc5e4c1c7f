use Rattle.std.proofs.Common.{map, take}
use Rattle.machine_model.specs.Names.{HaveNames}
use Rattle.machine_model.proofs.index.attach_names.Given as goal

abbrev pub invariant-loop-attach : goal.invariant-loop-attach
invariant-loop-attach l = HaveNames l.names (map (λ x. x.name) (take l.attach-index l.attaches))
