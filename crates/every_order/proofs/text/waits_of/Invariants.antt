use Rattle.std.proofs.Common.{◌≡◌, ◌+◌, flat_map}
use Rattle.cf_types.specs.Lines.{text_of}
use Rattle.cf_types.specs.Numbers.{below}
use Rattle.plain_world.specs.Plain.{world_of}
use Rattle.wait_lines.specs.Waits.{lines_at}
use Rattle.every_order.proofs.text.waits_of.Given as goal

abbrev pub invariant-loop-place : goal.invariant-loop-place
invariant-loop-place l = l.text.items ≡ text_of (flat_map (λ i. lines_at (world_of l.seeker.rules.now l.plain) (i + 1)) (below l.place))
