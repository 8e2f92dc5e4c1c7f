use Rattle.progress_laws.proofs.Runs.{ends_in_time}
use Rattle.progress_laws.proofs.ends.runs_end.Goals as goal

pub returns : goal.returns
returns c = ends_in_time
