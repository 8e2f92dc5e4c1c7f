use Rattle.std.proofs.Common.{subst}
use Rattle.app_output.specs.Output.{Writes}
use Rattle.app_output.specs.RunText.{run_text}
use Rattle.app_output.proofs.Ended.{stopped, wrote}
use Rattle.dev_board.specs.Shown.{Shown}
use Rattle.app_run.proofs.top.write_run.Goals as goal

pub returns-in_err-put_run : goal.returns-in_err-put_run
returns-in_err-put_run g c =
    let b = c.board.result.now in
    subst (λ (x : Shown). Writes (run_text x.world.setup.tables x.events x.world) (g.S.Sink.told c.args.out.now) (g.S.Sink.told c.put_run.new.out) c.from_residual.result) c.board.ensures
    (stopped (run_text b.world.setup.tables b.events b.world) _ _ c.from_residual.result _ c.from_residual.ensures.1 c.in_err-put_run.ensures)

pub returns : goal.returns
returns g c =
    let b = c.board.result.now in
    subst (λ (x : Shown). Writes (run_text x.world.setup.tables x.events x.world) (g.S.Sink.told c.args.out.now) (g.S.Sink.told c.flush.new.out) c.flush.result) c.board.ensures
    (wrote (run_text b.world.setup.tables b.events b.world) _ _ _ c.flush.result c.in_ok-put_run.ensures c.flush.ensures)
