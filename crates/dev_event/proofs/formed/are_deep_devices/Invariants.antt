use Rattle.std.proofs.Common.{take}
use Rattle.std.specs.List.{AllByRecursion}
use Rattle.run_rules.specs.Lines.{IsFormedDepthName}
use Rattle.dev_event.proofs.formed.are_deep_devices.Given as goal

abbrev pub invariant-loop-one : goal.invariant-loop-one
invariant-loop-one l = AllByRecursion IsFormedDepthName (take l.one-index l.names)
