use Rattle.history_replay.proofs.Cuts.{newline_is}
use Rattle.history_replay.proofs.cut.newline_in.Goals as goal

pub returns : goal.returns
returns c = newline_is c.args.text.now c.memchr.result c.memchr.ensures
