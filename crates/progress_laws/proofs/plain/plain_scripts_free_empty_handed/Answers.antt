use Rattle.progress_laws.proofs.PlainScripts.{always_empty_handed}
use Rattle.progress_laws.proofs.plain.plain_scripts_free_empty_handed.Goals as goal

pub returns : goal.returns
returns c = always_empty_handed
