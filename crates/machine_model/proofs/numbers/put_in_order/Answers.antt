use Rattle.std.proofs.Common.{rules}
use Rattle.std.proofs.lemmas.List.Sorted.{answers_always}
use Rattle.machine_model.proofs.NumberLemmas.{kept_first}
use Rattle.machine_model.proofs.numbers.put_in_order.Goals as goal

pub returns-clause-order : goal.returns-clause-order
returns-clause-order c = c.in_ok-sort_by_key.ensures.sorted (λ x. x.name) (answers_always _ _ _ (λ f a r g called. search rules))

pub returns-clause-same : goal.returns-clause-same
returns-clause-same c =
    kept_first c.args.numbers.now.items c.sort_by_key.new.self.items
    (c.in_ok-sort_by_key.ensures.stable (λ x. x.name) (answers_always _ _ _ (λ f a r g called. search rules)))
