use Rattle.std.proofs.Common.{◌∙◌, ap, arith, Bool, false}
use Rattle.run_rules.specs.World.{World}
use Rattle.run_rules.specs.After.{after, arrived, finaliser_done, list_moved, show_spot}
use Rattle.plain_world.specs.Plain.{world_of}
use Rattle.plain_effect.proofs.CallerLaws.{has_too}
use Rattle.plain_effect.proofs.after.finalise.Goals as goal

pub arrive-requires-clause-caller : goal.arrive-requires-clause-caller
arrive-requires-clause-caller c = has_too _ _ _ 500 _ c.show.ensures.callers (omega arith) c.requires.caller

pub end_call-requires : goal.end_call-requires
end_call-requires c = has_too _ _ _ 503 _ c.move_list.ensures.callers (omega arith) c.in_ok-arrive.ensures.caller

pub returns : goal.returns
unfolding after
returns c = λ of.
    let s = c.args.rules.now in
    let k = c.args.caller in
    let shown = c.args.call.shown in
    let listed = c.args.call.listed in
    let anew = c.args.call.anew in
    let b = c.is_some-answer.result in
    c.end_call.ensures s
    ∙ ap (λ (w : World). finaliser_done w k listed b)
    (c.move_list.ensures.world s
    ∙ ap (λ (w : World). list_moved w listed anew b) (c.in_ok-arrive.ensures.world ∙ ap (λ (w : World). arrived w k c.args.call.got false) (c.show.ensures.world s)))
    ∙ ap (λ (x : Bool). finaliser_done (list_moved (arrived (show_spot (world_of s c.args.plain.now) shown) k c.args.call.got false) listed anew x) k listed x) c.is_some-answer.ensures
