use Rattle.progress_laws.proofs.Falls.{left_falls}
use Rattle.progress_laws.proofs.ends.each_lowers.Goals as goal

pub returns : goal.returns
returns c = left_falls
