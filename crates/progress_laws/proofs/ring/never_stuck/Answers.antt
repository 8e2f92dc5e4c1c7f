use Rattle.progress_laws.proofs.Rings.{always_never_stuck}
use Rattle.progress_laws.proofs.ring.never_stuck.Goals as goal

pub returns : goal.returns
returns c = always_never_stuck
