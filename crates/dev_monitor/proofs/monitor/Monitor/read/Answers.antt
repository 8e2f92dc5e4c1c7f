use Rattle.std.proofs.Common.{◌==◌, ◌∙◌, List, ap, refl, sym, set}
use Rattle.std.specs.Prelude.{position}
use Rattle.std.specs.Vec.{with_item}
use Rattle.dev_monitor.specs.declared.queue.Queue.{Queue}
use Rattle.dev_monitor.proofs.WatchLaws.{read_none, read_one}
use Rattle.dev_monitor.proofs.monitor.Monitor.read.Goals as goal

pub returns-in-Some-clause-note : goal.returns-in-Some-clause-note
returns-in-Some-clause-note c = λ w of.
    (read_one w c.args.self.now (record c.args.self.now { queues = with_item c.args.self.now.queues c.in-Some.place c.take.new.self }) c.args.who c.in-Some.place c.index_mut.result.now c.take.result of
    (sym (c.place_of.ensures ∙ ap (λ (qs : List Queue). position (λ q. q.who == c.args.who) qs) c.deref.ensures.value) ∙ c.in-Some.is) (sym c.index_mut.ensures.value) refl refl
    (ap (set c.args.self.now.queues.items c.in-Some.place) c.take.ensures.left) c.take.ensures.value).note

pub returns-in-Some-clause-left : goal.returns-in-Some-clause-left
returns-in-Some-clause-left c = λ w of.
    (read_one w c.args.self.now _ c.args.who c.in-Some.place c.index_mut.result.now c.take.result of
    (sym (c.place_of.ensures ∙ ap (λ (qs : List Queue). position (λ q. q.who == c.args.who) qs) c.deref.ensures.value) ∙ c.in-Some.is) (sym c.index_mut.ensures.value) refl refl
    (ap (set c.args.self.now.queues.items c.in-Some.place) c.take.ensures.left) c.take.ensures.value).left

pub returns-in-None-clause-note : goal.returns-in-None-clause-note
returns-in-None-clause-note c = λ w of.
    (read_none w c.args.self.now c.args.who of (sym (c.place_of.ensures ∙ ap (λ (qs : List Queue). position (λ q. q.who == c.args.who) qs) c.deref.ensures.value) ∙ c.in-None.is)).note

pub returns-in-None-clause-left : goal.returns-in-None-clause-left
returns-in-None-clause-left c = λ w of.
    (read_none w c.args.self.now c.args.who of (sym (c.place_of.ensures ∙ ap (λ (qs : List Queue). position (λ q. q.who == c.args.who) qs) c.deref.ensures.value) ∙ c.in-None.is)).left
