-- What one event more does to a count of events.
use Rattle.std.proofs.Common.{◌≡◌, ◌+◌, Bool, cond, List, [], ◌∷◌, ◌++◌, arith}
use Rattle.std.proofs.lemmas.List.Sums.{sum_by-append}
use Rattle.std.specs.Prelude.{count_by}
use Rattle.run_rules.specs.declared.event.Event.{Event}

pub count_on : (p : Event → Bool) (h : List Event) (e : Event) → count_by p (h ++ e ∷ []) ≡ count_by p h + cond (p e) 1 0
count_on p h e = omega (arith, sum_by-append (λ x. cond (p x) 1 0) h (e ∷ []))
