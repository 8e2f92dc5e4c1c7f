use Rattle.std.proofs.Common.{refl}
use Rattle.run_rules.specs.After.{same_key}
use Rattle.defer_queue.proofs.Queues.{filter_none, takes_at}
use Rattle.defer_queue.proofs.deferred.DeferQueue.take_last.Goals as goal

pub returns-in_err-place : goal.returns-in_err-place
returns-in_err-place c =
    rw c.from_residual.ensures
    (rw (← c.self.view_is, ← c.deref.ensures.value) (filter_none (λ e. same_key e.key c.args.key) c.deref.result.now c.in_err-place.ensures, refl))

pub returns : goal.returns
returns c =
    rw (← c.self.view_is, c.remove-entry.ensures.by_index.2)
    (takes_at c.self.inside.entries.items c.args.key c.in_ok-place.place c.remove-entry.result (rw c.deref.ensures.value at c.in_ok-place.ensures) c.remove-entry.ensures.value)
