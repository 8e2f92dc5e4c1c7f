use Rattle.std.proofs.Common.{◌≡◌, ◌++◌, ◌-◌, All, length, map, take, drop}
use Rattle.dev_monitor.specs.declared.news.News.{News}
use Rattle.dev_monitor.specs.Queues.{put_in}
use Rattle.dev_monitor.proofs.queue.put_all.Given as goal

-- the queues before this one have it, and there is a copy for each of the others
abbrev pub invariant-loop-i : goal.invariant-loop-i
invariant-loop-i l = record {
  put : l.queues.items ≡ map (put_in l.news) (take l.i l.initial.queues.items) ++ drop l.i l.initial.queues.items;
  left : length l.copies.items ≡ length l.initial.queues.items - l.i;
  same : All (λ (copy : News). copy ≡ l.news) l.copies.items;
}
