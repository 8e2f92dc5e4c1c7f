use Rattle.progress_laws.proofs.Rings.{always_stuck_in_a_ring}
use Rattle.progress_laws.proofs.ring.stuck_in_a_ring.Goals as goal

pub returns : goal.returns
returns c = always_stuck_in_a_ring
