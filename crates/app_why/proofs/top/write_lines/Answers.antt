use Rattle.std.proofs.Common.{ℕ, List, subst}
use Rattle.cf_types.specs.Lines.{text_of}
use Rattle.app_output.specs.Output.{Writes}
use Rattle.app_output.proofs.Ended.{stopped, wrote}
use Rattle.app_why.proofs.top.write_lines.Goals as goal

pub returns-in_err-put_paths : goal.returns-in_err-put_paths
returns-in_err-put_paths g c =
    subst (λ (lines : List (List ℕ)). Writes (text_of lines) (g.S.Sink.told c.args.out.now) (g.S.Sink.told c.put_paths.new.out) c.from_residual.result) c.items.ensures
    (stopped (text_of c.items.result.now) _ _ c.from_residual.result _ c.from_residual.ensures.1 c.in_err-put_paths.ensures)

pub returns : goal.returns
returns g c =
    subst (λ (lines : List (List ℕ)). Writes (text_of lines) (g.S.Sink.told c.args.out.now) (g.S.Sink.told c.flush.new.out) c.flush.result) c.items.ensures
    (wrote (text_of c.items.result.now) _ _ _ c.flush.result c.in_ok-put_paths.ensures c.flush.ensures)
