use Rattle.history_laws.proofs.Boots.{calm_boot}
use Rattle.history_laws.proofs.laws.boot_calm.Goals as goal

pub returns : goal.returns
returns c = calm_boot
