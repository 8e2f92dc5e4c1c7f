use Rattle.std.proofs.Common.{◌∙◌, sym, arith}
use Rattle.std.proofs.lemmas.Option.{slice_get_within}
use Rattle.app_tasks.specs.Summary.{is_unconfigured}
use Rattle.app_tasks.proofs.Counts.{one_more, no_more}
use Rattle.app_tasks.proofs.summary.unconfigured.Goals as goal
use Rattle.app_tasks.proofs.summary.unconfigured.Goals.{then-is_unconfigured, else-is_unconfigured}

pub loop-place-preserved : goal.loop-place-preserved
loop-place-preserved c =
    let there = slice_get_within c.args.board.now.events c.loop-place.place c.event.result.now c.event.ensures in
    elim c.if-is_unconfigured.branch [
      | then-is_unconfigured w ↦ record {
        within = omega (arith, there);
        counted = w.count-is ∙ one_more is_unconfigured c.args.board.now.events c.loop-place.place c.loop-place.count c.event.result.now c.event.ensures (sym c.is_unconfigured.ensures ∙ w.if-is_unconfigured.true) c.loop-place.invariant.counted;
        few = omega (arith, w.count-is, c.loop-place.invariant.few);
      }
      | else-is_unconfigured w ↦ record {
        within = omega (arith, there);
        counted = w.count-is ∙ no_more is_unconfigured c.args.board.now.events c.loop-place.place c.loop-place.count c.event.result.now c.event.ensures (sym c.is_unconfigured.ensures ∙ w.if-is_unconfigured.false) c.loop-place.invariant.counted;
        few = omega (arith, w.count-is, c.loop-place.invariant.few);
      }
    ]
