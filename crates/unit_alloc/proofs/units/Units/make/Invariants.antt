use Rattle.unit_alloc.specs.Taken.{NoneTaken}
use Rattle.unit_alloc.proofs.units.Units.make.Given as goal

abbrev pub invariant-loop-device : goal.invariant-loop-device
invariant-loop-device l = NoneTaken l._device l.maps.items
