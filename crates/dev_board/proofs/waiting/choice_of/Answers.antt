use Rattle.std.proofs.Common.{arith}
use Rattle.dev_board.proofs.waiting.choice_of.Goals as goal

pub choose-requires : goal.choose-requires
choose-requires c = omega (arith, c.requires, c.stands.ensures.goes_on.kept.ranges.callers.as_many)
