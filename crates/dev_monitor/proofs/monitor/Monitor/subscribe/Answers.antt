use Rattle.std.proofs.Common.{◌==◌, ◌∷◌, [], ◌++◌, ◌∙◌, List, ap, refl, sym}
use Rattle.std.specs.Prelude.{position}
use Rattle.dev_monitor.specs.declared.queue.Queue.{Queue}
use Rattle.dev_monitor.proofs.WatchLaws.{subscribed_there, subscribes}
use Rattle.dev_monitor.proofs.monitor.Monitor.subscribe.Goals as goal

pub returns-then-is_some-clause-ok : goal.returns-then-is_some-clause-ok
returns-then-is_some-clause-ok c = λ w of.
    subscribed_there w c.args.self.now c.args.who c.args.capacity c.place_of.result
    (c.place_of.ensures ∙ ap (λ (qs : List Queue). position (λ q. q.who == c.args.who) qs) c.deref.ensures.value) (sym c.is_some.ensures ∙ c.if-is_some.true) of

pub returns-clause-ok : goal.returns-clause-ok
returns-clause-ok c = λ w of.
    subscribes w c.args.self.now _ c.args.who c.args.capacity c.requires.some refl refl
    (c.in_ok-push.ensures.items ∙ ap (λ (q : Queue). c.args.self.now.queues.items ++ q ∷ []) c.in_ok-queue.ensures) of
