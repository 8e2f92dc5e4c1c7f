use Rattle.replay_laws.proofs.Meant.{means_lines}
use Rattle.replay_laws.proofs.laws.meant_in_lines.Goals as goal

pub returns : goal.returns
returns c = means_lines
