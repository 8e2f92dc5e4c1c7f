use Rattle.std.proofs.Common.{◌≡◌, ◌+◌, length, sum_by}
use Rattle.board_lock.specs.Seats.{DoneShown}
use Rattle.board_lock.proofs.finish.gather.Given as goal

abbrev pub decreases-loop-one : goal.decreases-loop-one
decreases-loop-one g l = goal.left-loop-one g l

abbrev pub invariant-loop-one : goal.invariant-loop-one
invariant-loop-one g l =
    (l.all.parts + length l.done.items ≡ l.initial.all.parts + length l.initial.done.items)
    × (l.all.closings + sum_by (λ (d : DoneShown). d.closings) l.done.items ≡ l.initial.all.closings + sum_by (λ (d : DoneShown). d.closings) l.initial.done.items)
    × (l.all.dids + sum_by (λ (d : DoneShown). d.dids) l.done.items ≡ l.initial.all.dids + sum_by (λ (d : DoneShown). d.dids) l.initial.done.items)
    × ((l.initial.all.rights + length l.initial.done.items) + sum_by (λ (d : DoneShown). d.stops) l.done.items
    ≡ (l.all.rights + length l.done.items) + sum_by (λ (d : DoneShown). d.stops) l.initial.done.items)
