use Rattle.progress_laws.proofs.Rings.{always_goes_ends_or_rings}
use Rattle.progress_laws.proofs.ring.goes_ends_or_rings.Goals as goal

pub returns : goal.returns
returns c = always_goes_ends_or_rings
