use Rattle.progress_laws.proofs.Runs.{comes_to_rest}
use Rattle.progress_laws.proofs.ends.comes_to_rest.Goals as goal

pub returns : goal.returns
returns c = comes_to_rest
