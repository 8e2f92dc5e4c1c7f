use Rattle.std.proofs.Common.{length}
use Rattle.next_deed.proofs.rescan.+are_wanted.Given as goal

abbrev pub decreases-are_wanted : goal.decreases-are_wanted
decreases-are_wanted l = length l.given.now
