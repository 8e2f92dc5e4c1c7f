use Rattle.progress_laws.proofs.Texts.{test_decides}
use Rattle.progress_laws.proofs.plain.test_decides.Goals as goal

pub returns : goal.returns
returns c = test_decides
