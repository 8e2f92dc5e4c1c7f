use Rattle.cf_types.specs.Lines.{text_of}
use Rattle.app_output.proofs.Puts.{passed_on, puts_stops, puts_then}
use Rattle.app_output.proofs.lines.put_headed.Goals as goal

pub returns-in_err-put_piece : goal.returns-in_err-put_piece
returns-in_err-put_piece g c =
    passed_on _ _ _ c.from_residual.result _ c.from_residual.ensures.1
    (puts_stops c.args.head.now (text_of (g.L.Lines.lines c.args.lines.now)) _ _ _ c.in_err-put_piece.ensures)

pub returns : goal.returns
returns g c = puts_then c.args.head.now (text_of (g.L.Lines.lines c.args.lines.now)) _ _ _ c.put_lines.result c.in_ok-put_piece.ensures c.put_lines.ensures
