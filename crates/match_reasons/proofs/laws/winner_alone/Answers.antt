use Rattle.match_reasons.proofs.ReasonLaws.{alone_wins, wins_alone}
use Rattle.match_reasons.proofs.laws.winner_alone.Goals as goal

pub returns : goal.returns
returns c = λ s live p place x r lt. (wins_alone s live p place x r lt, alone_wins s live p place x r lt)
