use Rattle.progress_laws.proofs.PlainScripts.{always_ends_for_all}
use Rattle.progress_laws.proofs.plain.ends_for_all.Goals as goal

pub returns : goal.returns
returns c = always_ends_for_all
