use Rattle.std.proofs.Common.{◌∙◌, ap}
use Rattle.run_rules.specs.declared.world.Activity.TheVariants as activity
use Rattle.run_rules.specs.declared.world.Frame.{Frame}
use Rattle.run_rules.specs.World.{World}
use Rattle.run_rules.specs.After.{after, doing, pushed}
use Rattle.plain_world.specs.Plain.{world_of}
use Rattle.plain_effect.proofs.CallerLaws.{ok_more}
use Rattle.plain_effect.proofs.effect.rescan.Goals as goal

pub returns : goal.returns
unfolding after
returns c =
    let s = c.args.rules.now in
    let k = c.args.caller in
    ok_more c.push.result (c.push.ensures.world s) (λ e.
    e ∙ ap (λ (w : World). pushed w k c.in_ok-frame.frame) (c.begin.ensures.world s)
    ∙ ap (λ (f : Frame). pushed (doing (world_of s c.args.plain.now) k activity.Scans) k f) c.in_ok-frame.ensures)
