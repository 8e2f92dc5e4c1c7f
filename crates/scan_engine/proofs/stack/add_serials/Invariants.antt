use Rattle.std.proofs.Common.{◌≡◌, ◌++◌, map, take}
use Rattle.run_rules.specs.World.{frame_serial}
use Rattle.scan_engine.proofs.stack.add_serials.Given as goal

abbrev pub invariant-loop-frame : goal.invariant-loop-frame
invariant-loop-frame l = l.serials.items ≡ l.initial.serials.items ++ map frame_serial (take l.frame-index l.frames)
