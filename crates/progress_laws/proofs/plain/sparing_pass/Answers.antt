use Rattle.progress_laws.proofs.Texts.{sparing_pass}
use Rattle.progress_laws.proofs.plain.sparing_pass.Goals as goal

pub returns : goal.returns
returns c = sparing_pass
