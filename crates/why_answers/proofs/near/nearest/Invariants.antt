use Rattle.why_answers.specs.Near.{is_near, rank}
use Rattle.why_answers.proofs.Nears.{HasNear}
use Rattle.why_answers.proofs.near.nearest.Given as goal

abbrev pub invariant-loop-spot : goal.invariant-loop-spot
invariant-loop-spot l =
    let s = l.seen.rules.now in
    HasNear (is_near s l.seen.looks.now l.row) (rank s l.seen.looks.now l.row) l.spot l.best
