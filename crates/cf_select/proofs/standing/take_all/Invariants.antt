use Rattle.std.proofs.Common.{◌≡◌, ◌&&◌, ℕ, false, not, get_or, length, take}
use Rattle.cf_types.specs.Gather.{is_in}
use Rattle.cf_select.proofs.standing.take_all.Given as goal

abbrev pub invariant-loop-place : goal.invariant-loop-place
invariant-loop-place l = record {
  size : length l.free.items ≡ length l.initial.free.items;
  left : (x : ℕ) → get_or l.free.items x false ≡ (get_or l.initial.free.items x false && not (is_in x (take l.place-index l.places)));
}
