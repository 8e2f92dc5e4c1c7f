use Rattle.std.proofs.Common.{ap}
use Rattle.unit_alloc.specs.Taken.{units_of}
use Rattle.unit_alloc.proofs.map.UnitMap.make.Goals as goal

pub returns : goal.returns
unfolding units_of
returns c = ap units_of c.new.ensures.items
