use Rattle.std.proofs.Common.{◌≡◌, ◌∷◌, [], map, take}
use Rattle.run_rules.specs.World.{beginning, scan_of}
use Rattle.plain_world.proofs.world.beginning.Given as goal

abbrev pub invariant-loop-script : goal.invariant-loop-script
invariant-loop-script l = l.callers.items ≡ beginning (scan_of 0 ∷ []) ∷ map (λ script. beginning []) (take l._script-index l.rules.scripts)
