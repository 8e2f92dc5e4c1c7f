use Rattle.std.proofs.Common.{◌≡◌, ℕ, None, length}
use Rattle.std.specs.List.{slice_index_or}
use Rattle.cf_rows.proofs.device.no_groups.Given as goal

abbrev pub invariant-loop-device : goal.invariant-loop-device
invariant-loop-device l = record {
  size : length l.groups.items ≡ l._device;
  empty : (d : ℕ) → slice_index_or l.groups.items d None ≡ None;
}
