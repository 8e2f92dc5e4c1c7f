use Rattle.std.proofs.Common.{◌==◌, sym}
use Rattle.std.proofs.lemmas.List.Sorted.{list_any-IsPermutation}
use Rattle.detach_engine.proofs.marks.Marks.make.Goals as goal

pub returns-clause-pinned : goal.returns-clause-pinned
returns-clause-pinned c = λ serial. sym (list_any-IsPermutation (λ y. y == serial) _ _ c.sort_unstable.ensures.permutation)

pub returns-clause-undetachable : goal.returns-clause-undetachable
returns-clause-undetachable c = λ serial. sym (list_any-IsPermutation (λ y. y == serial) _ _ c.sort_unstable-2.ensures.permutation)
