use Rattle.dev_board.proofs.WhoGoes.{waits_live}
use Rattle.dev_board.proofs.waiting.line_of.Goals as goal

pub live_name-requires : goal.live_name-requires
live_name-requires c = waits_live c.args.going.now c.args.caller c.args.serial c.requires
