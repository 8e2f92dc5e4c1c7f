use Rattle.progress_laws.proofs.PlainScripts.{rounds_end_for_all}
use Rattle.progress_laws.proofs.plain.rounds_end_for_all.Goals as goal

pub returns : goal.returns
returns c = rounds_end_for_all
