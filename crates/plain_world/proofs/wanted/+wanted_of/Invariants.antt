use Rattle.std.proofs.Common.{length}
use Rattle.plain_world.proofs.wanted.+wanted_of.Given as goal

abbrev pub decreases-wanted_of : goal.decreases-wanted_of
decreases-wanted_of l = length l.given.now
