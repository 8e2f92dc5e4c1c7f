use Rattle.std.proofs.Common.{arith}
use Rattle.board_lock.proofs.Opened.{same_spots}
use Rattle.board_lock.proofs.locked.tests.lend.Goals as goal

pub settle-requires-clause-fits : goal.settle-requires-clause-fits
settle-requires-clause-fits g c =
    let same = same_spots c.locked.inside.board g.N.Naming.opening c.locked.invariant.0.opening in
    let spots = c.spots.ensures in
    search arith
