use Rattle.progress_laws.proofs.Rings.{always_ring}
use Rattle.progress_laws.proofs.ring.ring_where_stuck.Goals as goal

pub returns : goal.returns
returns c = always_ring
