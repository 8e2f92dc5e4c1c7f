use Rattle.progress_laws.proofs.Rings.{always_ends_alone}
use Rattle.progress_laws.proofs.ring.ends_alone.Goals as goal

pub returns : goal.returns
returns c = always_ends_alone
