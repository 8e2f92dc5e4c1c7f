use Rattle.std.proofs.Common.{rules, ◌∙◌, sym}
use Rattle.config_rules.specs.Select.{has_name}
use Rattle.file_select.proofs.TreeLemmas.{run_all, run_more, run_refused, run_stops}
use Rattle.file_select.proofs.condition.evaluate.Goals as goal

pub loop-piece-preserved : goal.loop-piece-preserved
loop-piece-preserved c =
    run_more (has_name c.args.names.now) c.args.pieces.now c.loop-piece.piece-index c.piece-item.result c.in-Some.symbol c.loop-piece.state c.in-Some-2.next c.loop-piece-test.true c.piece-item.is (search rules) (sym c.in-Some-2.is ∙ c.in_ok-next.ensures)
    ∙ c.loop-piece.invariant

pub returns-in_default : goal.returns-in_default
returns-in_default c =
    run_stops (has_name c.args.names.now) c.args.pieces.now c.loop-piece.piece-index c.piece-item.result c.loop-piece.state c.loop-piece-test.true c.piece-item.is (search rules) ∙ c.loop-piece.invariant

pub returns-in-None : goal.returns-in-None
returns-in-None c =
    run_refused (has_name c.args.names.now) c.args.pieces.now c.loop-piece.piece-index c.piece-item.result c.in-Some.symbol c.loop-piece.state c.loop-piece-test.true c.piece-item.is (search rules) (sym c.in-None.is ∙ c.in_ok-next.ensures)
    ∙ c.loop-piece.invariant

pub returns : goal.returns
returns c = sym (run_all (has_name c.args.names.now) c.args.pieces.now c.loop-piece.piece-index c.loop-piece.state c.loop-piece-test.false) ∙ c.loop-piece.invariant
