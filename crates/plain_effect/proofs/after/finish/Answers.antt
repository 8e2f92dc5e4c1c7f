use Rattle.std.proofs.Common.{◌+◌, ap}
use Rattle.run_rules.specs.declared.world.Activity.TheVariants as activity
use Rattle.run_rules.specs.World.{Caller}
use Rattle.plain_world.specs.Plain.{world_of}
use Rattle.plain_effect.proofs.CallerLaws.{set_is, with_callers}
use Rattle.plain_effect.proofs.after.finish.Goals as goal

pub returns : goal.returns
returns c = λ s.
    ap (with_callers (world_of s c.args.plain.now))
    (set_is (λ (x : Caller). record { over = x.over + 1; doing = activity.Idle; stack = x.stack }) c.args.plain.now.callers.items c.args.caller c.index_mut.result.now c.finish.new.self
    c.requires.there c.index_mut.ensures.value c.finish.ensures)
