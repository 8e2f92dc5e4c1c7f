use Rattle.std.proofs.Common.{◌≡◌, take}
use Rattle.cf_options.specs.Last.{is_dropped, not_dropped}
use Rattle.cf_options.proofs.kept.are_kept.Given as goal

abbrev pub invariant-loop-item : goal.invariant-loop-item
invariant-loop-item l = take l.item-index l.items ≡ not_dropped (is_dropped l.last l.place) (λ i. i.name) (take l.item-index l.items)
