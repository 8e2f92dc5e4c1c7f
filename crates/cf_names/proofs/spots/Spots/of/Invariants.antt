use Rattle.std.proofs.Common.{take}
use Rattle.cf_names.specs.Spots.{AreSpots, all_spots}
use Rattle.cf_names.proofs.spots.Spots.of.Given as goal

abbrev pub invariant-loop-number : goal.invariant-loop-number
invariant-loop-number l = AreSpots l.spots (all_spots (take l.number l.attaches))
