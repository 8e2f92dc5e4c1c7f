use Rattle.cf_io.proofs.GrowsLemmas.{front_put}
use Rattle.app_output.proofs.piece.put_piece.Goals as goal

pub returns-in-Failed : goal.returns-in-Failed
returns-in-Failed g c = (front_put c.args.piece.now c.in-Failed.field-0 _ _ c.in-Failed.ensures.taken.1, c.in-Failed.ensures.taken.2)
