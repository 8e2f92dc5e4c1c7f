use Rattle.std.proofs.Common.{◌≡◌, ◌+◌, ◌-◌, ℕ, length}
use Rattle.cf_names.specs.Attaches.{numbers_at}
use Rattle.cf_names.proofs.index.make_room.Given as goal

abbrev pub invariant-loop-alloc : goal.invariant-loop-alloc
invariant-loop-alloc l = (q : ℕ) → numbers_at l.of_devices.items q ≡ numbers_at l.initial.of_devices.items q

abbrev pub decreases-loop-alloc : goal.decreases-loop-alloc
decreases-loop-alloc l = l.device + 1 - length l.of_devices.items
