use Rattle.boot_looks.proofs.Winners.{wins}
use Rattle.boot_looks.proofs.laws.visits_take_winners.Goals as goal

pub returns : goal.returns
returns c = wins
