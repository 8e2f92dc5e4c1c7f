use Rattle.std.proofs.Common.{◌≡◌, false}
use Rattle.std.specs.Prelude.{filter, slice_get}
use Rattle.std.specs.Option.{option_map_or}
use Rattle.cf_types.specs.Numbers.{below}
use Rattle.plain_world.proofs.world.late_spots.Given as goal

abbrev pub invariant-loop-spot : goal.invariant-loop-spot
invariant-loop-spot l = l.spots ≡ filter (λ x. option_map_or (λ spot. spot.late) (slice_get l.rules.machine.spots x) false) (below l.spot)
