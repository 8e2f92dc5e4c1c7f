use Rattle.std.proofs.Common.{◌≡◌, filter}
use Rattle.cf_types.specs.Numbers.{below}
use Rattle.gone_rows.specs.Gone.{is_gone, stated_by}
use Rattle.gone_rows.proofs.gone.gone_places.Given as goal

abbrev pub invariant-loop-place : goal.invariant-loop-place
invariant-loop-place l = l.places.items ≡ filter (is_gone (stated_by l.stated) l.word) (below l.place)
