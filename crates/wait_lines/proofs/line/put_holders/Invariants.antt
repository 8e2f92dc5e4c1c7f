use Rattle.std.proofs.Common.{◌≡◌, ◌++◌, flat_map, take}
use Rattle.wait_lines.specs.Waits.{holder_text}
use Rattle.wait_lines.proofs.line.put_holders.Given as goal

abbrev pub invariant-loop-hold : goal.invariant-loop-hold
invariant-loop-hold l = l.out.items ≡ l.initial.out.items ++ flat_map holder_text (take l.hold-index l.holders)
