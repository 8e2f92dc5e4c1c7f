use Rattle.std.proofs.Common.{◌∙◌, ap, sym, List}
use Rattle.run_rules.specs.After.{after, doing, pushed}
use Rattle.run_rules.specs.World.{World, start}
use Rattle.run_rules.specs.declared.world.Activity.TheVariants as activity
use Rattle.run_rules.specs.declared.world.Wanted.{Wanted}
use Rattle.run_rules.specs.declared.world.Frame.TheVariants.{Scan}
use Rattle.run_world.specs.View.{world_of}
use Rattle.deed_effect.proofs.EffectLaws.{ok_more, err_more}
use Rattle.deed_effect.proofs.effect.rescan.Goals as goal

pub returns-clause-ok : goal.returns-clause-ok
unfolding after
returns-clause-ok c =
    let s = c.args.site.now.setup in
    let w : World = world_of s c.args.core.now in
    ok_more c.begin_scan.result c.begin_scan.ensures.ok (λ h.
    h s ∙ ap (λ (ws : List Wanted). pushed (doing w c.args.caller activity.Scans) c.args.caller (Scan c.args.of c.args.only ws start)) (sym (rw c.given_by.ensures at c.in_ok-filter.ensures)))

pub returns-clause-err : goal.returns-clause-err
returns-clause-err c = err_more c.begin_scan.result c.begin_scan.ensures.err (λ h. h c.args.site.now.setup)
