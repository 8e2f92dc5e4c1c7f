use Rattle.boot_looks.proofs.Missed.{none_missed}
use Rattle.boot_looks.proofs.laws.boots_miss_none.Goals as goal

pub returns : goal.returns
returns c = none_missed
