use Rattle.boot_laws.proofs.Thorough.{thorough}
use Rattle.boot_laws.proofs.laws.runs_are_thorough.Goals as goal

pub returns : goal.returns
returns c = thorough
