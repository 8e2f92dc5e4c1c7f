use Rattle.std.specs.Prelude.{vec_len}
use Rattle.board_lock.proofs.deal.+deal_all.Given as goal

abbrev pub decreases-deal_all : goal.decreases-deal_all
decreases-deal_all g l = vec_len l.callers.now
