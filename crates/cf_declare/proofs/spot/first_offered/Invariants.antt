use Rattle.std.proofs.Common.{◌≡◌, ◌==◌, ◌&&◌, List, take}
use Rattle.cf_names.specs.Spots.{AreSpots, Spot, first_spot}
use Rattle.cf_declare.specs.FirstSpots.{offered}
use Rattle.cf_declare.proofs.spot.first_offered.Given as goal

abbrev pub invariant-loop-attr : goal.invariant-loop-attr
invariant-loop-attr l = (all : List Spot) → AreSpots l.spots all → l.first ≡ first_spot (λ s. (s.key.device == l.device) && offered (take l.attr-index l.attrs) s.key.place) all
