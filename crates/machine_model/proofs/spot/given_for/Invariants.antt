use Rattle.std.proofs.Common.{◌≡◌, bytes_eq, drop, map}
use Rattle.std.specs.Prelude.{find}
use Rattle.machine_model.specs.Found.{given_of}
use Rattle.machine_model.proofs.spot.given_for.Given as goal

abbrev pub invariant-loop-value : goal.invariant-loop-value
invariant-loop-value l =
    find (λ g. bytes_eq g.name l.name) (map given_of (drop l.value-index l.found)) ≡ find (λ g. bytes_eq g.name l.name) (map given_of l.found)
