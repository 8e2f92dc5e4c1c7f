use Rattle.std.proofs.Common.{◌∙◌, sym, arith}
use Rattle.std.proofs.lemmas.Option.{slice_get_within}
use Rattle.app_tasks.specs.Summary.{attaches}
use Rattle.app_tasks.proofs.Counts.{one_more, no_more}
use Rattle.app_tasks.proofs.summary.attached.Goals as goal
use Rattle.app_tasks.proofs.summary.attached.Goals.{then-attaches, else-attaches}

pub loop-place-preserved : goal.loop-place-preserved
loop-place-preserved c =
    let there = slice_get_within c.args.board.now.events c.loop-place.place c.event.result.now c.event.ensures in
    elim c.if-attaches.branch [
      | then-attaches w ↦ record {
        within = omega (arith, there);
        counted = w.count-is ∙ one_more attaches c.args.board.now.events c.loop-place.place c.loop-place.count c.event.result.now c.event.ensures (sym c.attaches.ensures ∙ w.if-attaches.true) c.loop-place.invariant.counted;
        few = omega (arith, w.count-is, c.loop-place.invariant.few);
      }
      | else-attaches w ↦ record {
        within = omega (arith, there);
        counted = w.count-is ∙ no_more attaches c.args.board.now.events c.loop-place.place c.loop-place.count c.event.result.now c.event.ensures (sym c.attaches.ensures ∙ w.if-attaches.false) c.loop-place.invariant.counted;
        few = omega (arith, w.count-is, c.loop-place.invariant.few);
      }
    ]
