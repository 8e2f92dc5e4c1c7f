use Rattle.dev_monitor.proofs.BoardLaws.{each_told}
use Rattle.dev_monitor.proofs.laws.each_detach_told.Goals as goal

pub returns : goal.returns
returns c = each_told
