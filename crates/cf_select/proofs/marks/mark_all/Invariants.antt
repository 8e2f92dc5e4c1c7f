use Rattle.std.proofs.Common.{take}
use Rattle.cf_types.specs.Gather.{is_in}
use Rattle.cf_select.specs.Reached.{Marks}
use Rattle.cf_select.proofs.marks.mark_all.Given as goal

abbrev pub invariant-loop-place : goal.invariant-loop-place
invariant-loop-place l = Marks l.initial.marks.items l.initial.order.items l.marks.items l.order.items (λ x. is_in x (take l.place-index l.places))
