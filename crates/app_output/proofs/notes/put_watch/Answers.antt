use Rattle.app_output.specs.NoteText.{notes_text, watch_text}
use Rattle.app_output.specs.RunText.{run_text}
use Rattle.app_output.proofs.Puts.{passed_on, puts_stops, puts_then}
use Rattle.app_output.proofs.notes.put_watch.Goals as goal

pub returns-in_err-put_run : goal.returns-in_err-put_run
unfolding watch_text
returns-in_err-put_run g c =
    let b = c.args.board.now in
    passed_on _ _ _ c.from_residual.result _ c.from_residual.ensures.1
    (puts_stops (run_text b.world.setup.tables b.events b.world) (notes_text c.args.readings.now) _ _ _ c.in_err-put_run.ensures)

pub returns : goal.returns
unfolding watch_text
returns g c =
    let b = c.args.board.now in
    puts_then (run_text b.world.setup.tables b.events b.world) (notes_text c.args.readings.now) _ _ _ c.put_notes.result c.in_ok-put_run.ensures c.put_notes.ensures
