use Rattle.std.proofs.Common.{ap}
use Rattle.run_rules.specs.After.{under_top}
use Rattle.run_rules.specs.World.{Caller}
use Rattle.plain_world.specs.Plain.{restacked, world_of}
use Rattle.plain_effect.proofs.CallerLaws.{set_is, with_callers}
use Rattle.plain_effect.proofs.after.leave.Goals as goal

pub returns : goal.returns
returns c = λ s.
    ap (with_callers (world_of s c.args.plain.now))
    (set_is (λ (x : Caller). restacked x (under_top x.stack)) c.args.plain.now.callers.items c.args.caller c.index_mut.result.now c.leave.new.self
    c.requires.there c.index_mut.ensures.value c.leave.ensures)
