use Rattle.std.proofs.Common.{◌∙◌, ap, ℕ, List}
use Rattle.run_rules.specs.declared.world.Activity.TheVariants as activity
use Rattle.run_rules.specs.After.{after, condemned, doing, over}
use Rattle.plain_world.specs.Plain.{world_of}
use Rattle.plain_effect.proofs.CallerLaws.{ok_more}
use Rattle.plain_effect.proofs.effect.unplug.Goals as goal

pub returns-in-Some : goal.returns-in-Some
unfolding after
returns-in-Some c = λ s.
    let k = c.args.caller in
    let t = c.in-Some.serial in
    rw c.in-Some.is
    (ok_more c.detach.result (c.detach.ensures s) (λ e.
    e ∙ ap (λ (xs : List ℕ). doing (condemned (record (world_of s c.args.plain.now) { absent = xs }) k t) k (activity.Frees t)) c.in_ok-put_first.ensures))

pub returns-in-None : goal.returns-in-None
unfolding after
returns-in-None c = λ s.
    rw c.in-None.is
    (c.finish.ensures s ∙ ap (λ (xs : List ℕ). over (record (world_of s c.args.plain.now) { absent = xs }) c.args.caller) c.in_ok-put_first.ensures)
