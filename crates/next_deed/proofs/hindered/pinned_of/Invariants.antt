use Rattle.std.proofs.Common.{◌≡◌, ◌==◌, ℕ, take}
use Rattle.std.specs.List.{list_any}
use Rattle.run_rules.specs.World.{frame_serial, has}
use Rattle.next_deed.proofs.hindered.pinned_of.Given as goal

abbrev pub invariant-loop-caller : goal.invariant-loop-caller
invariant-loop-caller l = (x : ℕ) → has l.serials.items x ≡ list_any (λ c. list_any (λ f. frame_serial f == x) c.stack.frames) (take l.caller-index l.caller-items)
