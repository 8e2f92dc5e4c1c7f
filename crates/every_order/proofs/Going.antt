-- What a turn keeps of a plain world.
use Rattle.std.proofs.Common.{◌≤◌, ◌+◌, ℕ, length, arith}
use Rattle.run_rules.specs.declared.world.Setup.{Setup}
use Rattle.run_sound.specs.Kept.{Kept, MayRun}
use Rattle.plain_world.specs.declared.world.Plain.{Plain}
use Rattle.plain_world.specs.Plain.{world_of}
use Rattle.plain_world.proofs.Going.{kept_then, next_grows}
use Rattle.every_order.specs.Reach.{IsTurn}

pub turn_kept : (s : Setup) (p q : Plain) (k : ℕ) → MayRun s → Kept (world_of s p) → IsTurn (world_of s p) k (world_of s q) → Kept (world_of s q)
turn_kept s p q k may kept turn = kept_then s p q k turn.deed may kept turn.chosen turn.world

pub turn_grows : (s : Setup) (p q : Plain) (k : ℕ) → IsTurn (world_of s p) k (world_of s q) → q.live.next ≤ p.live.next + 1
turn_grows s p q k turn = next_grows s p q k turn.deed turn.world

pub callers_few : (s : Setup) (p : Plain) → MayRun s → Kept (world_of s p) → length p.callers.items ≤ 17
callers_few s p may kept = let many = kept.ranges.callers.as_many in let few = may.few_scripts in omega (arith, many, few)
