use Rattle.why_answers.proofs.SeenLaws.{SearchedTo}
use Rattle.why_answers.proofs.near.all_searches.Given as goal

abbrev pub invariant-loop-spot : goal.invariant-loop-spot
invariant-loop-spot l = SearchedTo l.rules l.looks l.spot l.searches.items
