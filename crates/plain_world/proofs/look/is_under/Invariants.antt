use Rattle.std.proofs.Common.{◌≡◌, ◌-◌, length}
use Rattle.run_rules.specs.World.{has, lineage}
use Rattle.plain_world.proofs.look.is_under.Given as goal

-- what is left of the chain has the device above exactly where the whole chain has it
abbrev pub invariant-loop-level : goal.invariant-loop-level
invariant-loop-level l = has (lineage (length l.live.devices - l._level) l.live.devices l.current) l.above ≡ has (lineage (length l.live.devices) l.live.devices l.serial) l.above
