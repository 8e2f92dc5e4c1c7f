use Rattle.app_output.proofs.Ended.{stopped, wrote}
use Rattle.app_every.proofs.top.write_text.Goals as goal

pub returns-in_err-put_piece : goal.returns-in_err-put_piece
returns-in_err-put_piece g c = stopped c.args.text.now _ _ c.from_residual.result _ c.from_residual.ensures.1 c.in_err-put_piece.ensures

pub returns : goal.returns
returns g c = wrote c.args.text.now _ _ _ c.flush.result c.in_ok-put_piece.ensures c.flush.ensures
