use Rattle.std.proofs.Common.{◌≡◌, ◌++◌, map, take}
use Rattle.defer_queue.proofs.deferred.DeferQueue.add_children.Given as goal

abbrev pub invariant-loop-entry : goal.invariant-loop-entry
invariant-loop-entry l = l.serials.items ≡ l.initial.serials.items ++ map (λ e. e.child) (take l.entry-index l.entry-items)
