use Rattle.std.proofs.Common.{◌≡◌, ◌++◌, take}
use Rattle.cf_options.specs.Last.{is_dropped, not_dropped}
use Rattle.cf_options.proofs.kept.push_names.Given as goal

abbrev pub invariant-loop-name : goal.invariant-loop-name
invariant-loop-name l = l.kept ≡ l.initial.kept ++ not_dropped (is_dropped l.last l.place) (λ n. n) (take l.name-index l.names)
