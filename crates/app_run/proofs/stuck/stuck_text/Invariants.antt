use Rattle.std.proofs.Common.{◌≡◌, flat_map, take}
use Rattle.app_run.specs.StuckText.{stuck_line}
use Rattle.app_run.proofs.stuck.stuck_text.Given as goal

abbrev pub invariant-loop-line : goal.invariant-loop-line
invariant-loop-line l = l.text.items ≡ flat_map stuck_line (take l.line-index l.line-items)
