use Rattle.cf_compile.specs.Judged.{Walked}
use Rattle.cf_compile.proofs.judge.judge.Given as goal

abbrev pub invariant-loop-place : goal.invariant-loop-place
invariant-loop-place l = Walked l.files l.placed l.place l.selection.declarations l.selection.instances l.count
