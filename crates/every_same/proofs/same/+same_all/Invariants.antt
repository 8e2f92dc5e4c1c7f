use Rattle.std.proofs.Common.{length}
use Rattle.every_same.proofs.same.+same_all.Given as goal

abbrev pub decreases-same_all : goal.decreases-same_all
decreases-same_all g l = length l.a.now
