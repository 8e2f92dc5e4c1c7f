use Rattle.std.proofs.Common.{◌+◌, ap, refl}
use Rattle.run_rules.specs.declared.world.Activity.TheVariants as activity
use Rattle.run_rules.specs.World.{Caller}
use Rattle.run_world.specs.View.{world_of}
use Rattle.run_world.proofs.CallerLaws.{caller_set}
use Rattle.run_world.proofs.CallerLaws.{with_callers}
use Rattle.run_world.proofs.activity.finish.Goals as goal

pub returns-clause-world : goal.returns-clause-world
returns-clause-world c = λ s.
    ap (with_callers (world_of s c.args.core.now))
    (caller_set (λ (x : Caller). record { over = x.over + 1; doing = activity.Idle; stack = x.stack }) c.args.core.now.callers.items c.args.caller c.index_mut-state.result.now
    (record c.index_mut-state.result.now { over = c.index_mut-state.result.now.over + 1; doing = activity.Idle })
    c.requires.caller c.index_mut-state.ensures.value refl)
