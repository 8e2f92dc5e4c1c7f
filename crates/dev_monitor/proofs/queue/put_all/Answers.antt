use Rattle.std.proofs.Common.{◌∙◌, ap, arith, length}
use Rattle.std.proofs.lemmas.List.{length_push}
use Rattle.dev_monitor.specs.declared.news.News.{News}
use Rattle.dev_monitor.specs.Queues.{put_in}
use Rattle.dev_monitor.proofs.QueueLaws.{last_copy, other_copies, put_more}
use Rattle.dev_monitor.proofs.queue.put_all.Goals as goal

pub loop-i-preserved : goal.loop-i-preserved
loop-i-preserved c =
    let is = c.in-Some.ensures.items in
    let copy = last_copy c.args.news.now c.in-Some.copy c.pop.new.self.items c.loop-i.copies.items is c.loop-i.invariant.same in
    record {
      put = put_more c.args.news.now c.args.queues.now.items c.loop-i.queues.items c.loop-i.i c.index_mut.result.now c.put.new.self (omega arith) c.loop-i.invariant.put c.index_mut.ensures.value
          (c.put.ensures ∙ ap (λ (n : News). put_in n c.index_mut.result.now) copy);
      left = omega (arith, ap length is, length_push c.pop.new.self.items c.in-Some.copy);
      same = other_copies c.args.news.now c.in-Some.copy c.pop.new.self.items c.loop-i.copies.items is c.loop-i.invariant.same;
    }
