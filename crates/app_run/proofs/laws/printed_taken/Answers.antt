use Rattle.app_run.proofs.Printed.{printed_taken}
use Rattle.app_run.proofs.laws.printed_taken.Goals as goal

pub returns : goal.returns
returns g c = printed_taken g.M.Medium.carried
