use Rattle.boot_laws.proofs.Candidates.{no_new_winner}
use Rattle.boot_laws.proofs.laws.no_new_winner.Goals as goal

pub returns : goal.returns
returns c = no_new_winner
