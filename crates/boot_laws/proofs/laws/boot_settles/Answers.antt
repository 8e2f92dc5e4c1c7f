use Rattle.boot_laws.proofs.Boots.{boot_settles}
use Rattle.boot_laws.proofs.laws.boot_settles.Goals as goal

pub returns : goal.returns
returns c = boot_settles
