use Rattle.std.proofs.Common.{List, ◌++◌, map, take}
use Rattle.cf_names.specs.Spots.{AreSpots, Spot, spot_at}
use Rattle.cf_names.proofs.spots.Spots.add.Given as goal

abbrev pub invariant-loop-place : goal.invariant-loop-place
invariant-loop-place l = (all : List Spot) → AreSpots l.initial.self all → AreSpots l.self (all ++ map (spot_at l.device l.attach) (take l.place-index l.places))
