use Rattle.std.proofs.Common.{◌+◌, ◌-◌, arith, sym, subst}
use Rattle.dev_monitor.specs.Queues.{IsOf}
use Rattle.dev_monitor.specs.Subscribers.{Watched, after_read}
use Rattle.app_tasks.proofs.WatchedLaws.{all_left, told_all, told_last, told_more}
use Rattle.app_tasks.proofs.watch.read_notes.Goals as goal

pub loop-init : goal.loop-init
loop-init c = λ g of. (g, of, all_left c.args.who (c.args.most - 0) c.args.most g c.args.told.now (omega arith))

pub loop-preserved : goal.loop-preserved
loop-preserved c = λ g of.
    let v = c.loop.invariant g of in (
      after_read v.0 c.args.who,
      c.read-note.ensures.left v.0 v.1,
      told_more c.args.who (c.args.most - c.loop.counter) (c.args.most - (c.loop.counter + 1)) c.args.most g v.0 c.args.told.now c.loop.told c.push.new.self c.read-note.result (omega arith)
          (c.read-note.ensures.note v.0 v.1) c.if-ended.ensures c.in_ok-push.ensures.ok v.2,
    )

pub returns-clause-told : goal.returns-clause-told
returns-clause-told c = λ g of.
    let v = c.loop.invariant g of in (told_all c.args.who (c.args.most - c.loop.counter) c.args.most g v.0 c.args.told.now c.loop.told (omega arith) v.2).tells

pub returns-clause-left : goal.returns-clause-left
returns-clause-left c = λ g of.
    let v = c.loop.invariant g of in
    subst (λ (f : Watched). IsOf f c.loop.monitor) (told_all c.args.who (c.args.most - c.loop.counter) c.args.most g v.0 c.args.told.now c.loop.told (omega arith) v.2).after v.1

pub returns-then-ended-clause-told : goal.returns-then-ended-clause-told
returns-then-ended-clause-told c = λ g of.
    let v = c.loop.invariant g of in
    (told_last c.args.who (c.args.most - c.loop.counter) (c.args.most - (c.loop.counter + 1)) c.args.most g v.0 c.args.told.now c.loop.told c.push.new.self c.read-note.result (omega arith)
    (c.read-note.ensures.note v.0 v.1) c.if-ended.ensures c.in_ok-push.ensures.ok v.2).tells

pub returns-then-ended-clause-left : goal.returns-then-ended-clause-left
returns-then-ended-clause-left c = λ g of.
    let v = c.loop.invariant g of in
    subst (λ (f : Watched). IsOf f c.read-note.new.self)
    (told_last c.args.who (c.args.most - c.loop.counter) (c.args.most - (c.loop.counter + 1)) c.args.most g v.0 c.args.told.now c.loop.told c.push.new.self c.read-note.result (omega arith)
    (c.read-note.ensures.note v.0 v.1) c.if-ended.ensures c.in_ok-push.ensures.ok v.2).after (c.read-note.ensures.left v.0 v.1)
