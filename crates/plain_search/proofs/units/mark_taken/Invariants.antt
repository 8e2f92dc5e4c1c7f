use Rattle.std.proofs.Common.{◌≡◌, ℕ, ◌<◌, ◌+◌, false, length, take, slice_index_or}
use Rattle.run_rules.specs.Search.{is_taken}
use Rattle.plain_search.proofs.units.mark_taken.Given as goal

abbrev pub invariant-loop-device : goal.invariant-loop-device
invariant-loop-device l = (k : ℕ) → k < length l.marks → slice_index_or l.marks k false ≡ is_taken l.rules (take l.device-index l.devices) l.driver (l.first + k)
