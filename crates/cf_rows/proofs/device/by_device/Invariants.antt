use Rattle.std.proofs.Common.{◌≡◌, ℕ, ◌<◌, ◌==◌, None, [], length, take}
use Rattle.std.specs.Prelude.{filter}
use Rattle.std.specs.List.{slice_index_or}
use Rattle.std.specs.Option.{unwrap_or}
use Rattle.cf_rows.specs.Rows.{seen}
use Rattle.cf_rows.proofs.device.by_device.Given as goal

abbrev pub invariant-loop-instance : goal.invariant-loop-instance
invariant-loop-instance l = record {
  size : length l.groups.items ≡ l.devices;
  own : (d : ℕ) → d < l.devices → seen (unwrap_or (slice_index_or l.groups.items d None) []) ≡ filter (λ i. i.joined.device == d) (seen (take l.instance-index l.instances));
}
