use Rattle.std.proofs.Common.{map, take}
use Rattle.machine_model.specs.Names.{HaveNames}
use Rattle.machine_model.proofs.index.attr_names.Given as goal

abbrev pub invariant-loop-attr : goal.invariant-loop-attr
invariant-loop-attr l = HaveNames l.names (map (λ x. x.name) (take l.attr-index l.attrs))
