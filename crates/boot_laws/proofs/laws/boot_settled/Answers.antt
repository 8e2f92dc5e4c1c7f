use Rattle.boot_laws.proofs.Unwanted.{leaves_unwanted}
use Rattle.boot_laws.proofs.laws.boot_settled.Goals as goal

pub returns : goal.returns
returns c = leaves_unwanted
