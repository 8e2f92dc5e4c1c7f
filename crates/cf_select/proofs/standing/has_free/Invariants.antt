use Rattle.std.proofs.Common.{◌≡◌, false, get_or, take}
use Rattle.std.specs.List.{list_any}
use Rattle.cf_select.proofs.standing.has_free.Given as goal

abbrev pub invariant-loop-place : goal.invariant-loop-place
invariant-loop-place l = list_any (λ x. get_or l.free x false) (take l.place-index l.places) ≡ false
