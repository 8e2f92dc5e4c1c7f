use Rattle.script_laws.proofs.Runs.{all_ran_whole}
use Rattle.script_laws.proofs.laws.all_whole.Goals as goal

pub returns : goal.returns
returns c = all_ran_whole
