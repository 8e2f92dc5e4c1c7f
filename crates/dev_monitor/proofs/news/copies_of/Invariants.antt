use Rattle.std.proofs.Common.{◌≡◌, All, length}
use Rattle.dev_monitor.specs.declared.news.News.{News}
use Rattle.dev_monitor.proofs.news.copies_of.Given as goal

abbrev pub invariant-loop : goal.invariant-loop
invariant-loop l = record {
  count : length l.copies.items ≡ l.counter;
  same : All (λ (copy : News). copy ≡ l.news) l.copies.items;
}
