use Rattle.std.proofs.Common.{◌+◌, ℕ, ap, refl, arith}
use Rattle.dev_monitor.specs.Queues.{Becomes}
use Rattle.dev_monitor.proofs.WatchLaws.{on_err, stays, takes_event}
use Rattle.dev_monitor.proofs.monitor.Monitor.take_event.Goals as goal

pub returns-in_err-tell_event-clause-err : goal.returns-in_err-tell_event-clause-err
returns-in_err-tell_event-clause-err c =
    on_err (Becomes c.args.self.now (λ w. w) c.tell_event.new.self) c.from_residual.result
    (λ w of. stays w c.args.self.now c.tell_event.new.self of c.tell_event.ensures.taken c.in_err-tell_event.ensures.err)

pub returns-clause-ok : goal.returns-clause-ok
returns-clause-ok c = λ w of living.
    takes_event w c.args.event.now c.args.self.now c.tell_event.new.self _ of living (ap (λ (n : ℕ). n + 1) c.tell_event.ensures.taken) (omega arith) refl refl c.in_ok-tell_event.ensures.ok
