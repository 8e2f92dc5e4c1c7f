use Rattle.progress_laws.proofs.PlainScripts.{always_go_on}
use Rattle.progress_laws.proofs.plain.plain_scripts_go_on.Goals as goal

pub returns : goal.returns
returns c = always_go_on
