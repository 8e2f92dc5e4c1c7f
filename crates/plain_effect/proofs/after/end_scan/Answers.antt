use Rattle.std.proofs.Common.{◌∙◌, ap}
use Rattle.run_rules.specs.declared.world.Key.TheVariants as key
use Rattle.run_rules.specs.World.{Caller}
use Rattle.run_rules.specs.After.{after}
use Rattle.plain_world.specs.Plain.{world_of}
use Rattle.plain_effect.proofs.CallerLaws.{at_is, ok_more, released_under, under}
use Rattle.plain_effect.proofs.after.end_scan.Goals as goal

pub returns : goal.returns
unfolding after
returns c = λ s.
    let p = c.args.plain.now in
    let k = c.args.caller in
    let x = c.index_mut.result.now in
    let top = c.drop_top.ensures ∙ ap (λ (y : Caller). under y) (at_is p.callers.items k x c.requires.there c.index_mut.ensures.value) in
    ok_more c.release.result (c.release.ensures s) (λ e. e ∙ released_under (world_of s p) k (key.Parent c.args.of) c.drop_top.new.self c.requires.there top)
