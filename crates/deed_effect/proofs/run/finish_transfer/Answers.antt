use Rattle.std.proofs.Common.{◌≡◌, ◌∙◌, ap, subst, sym}
use Rattle.run_rules.specs.After.{after}
use Rattle.run_rules.specs.Next.{next}
use Rattle.run_rules.specs.World.{World}
use Rattle.run_rules.specs.declared.deed.Choice.TheVariants.{Does}
use Rattle.run_rules.specs.declared.deed.Deed.TheVariants.{Done}
use Rattle.run_sound.specs.Kept.{Kept, MayRun}
use Rattle.run_world.specs.Going.{GoesOn}
use Rattle.run_world.specs.View.{world_of}
use Rattle.run_world.proofs.TellLaws.{doer_there, few_over}
use Rattle.deed_effect.proofs.GoesLaws.{goes_after}
use Rattle.deed_effect.proofs.run.finish_transfer.Goals as goal

pub finish_transfer-requires : goal.finish_transfer-requires
finish_transfer-requires c =
    let s = c.held.inside.site.setup in
    let core = c.held.inside.core in
    let back = sym (c.held.view_is ∙ c.going.view_is) in
    record {
      caller = doer_there s core c.args.ticket.caller _ (subst (λ (w : World). next w c.args.ticket.caller ≡ Does (Done c.args.ticket)) back c.requires);
      low = few_over s core c.args.ticket.caller (subst (λ (w : World). MayRun w.setup) (sym c.held.view_is) c.going.invariant.may) (subst Kept (sym c.held.view_is) c.going.invariant.kept);
    }

pub invariant_of-held : goal.invariant_of-held
invariant_of-held c = c.finish_transfer.ensures.books c.held.inside.site.setup c.held.invariant

pub invariant_of-going : goal.invariant_of-going
invariant_of-going c =
    let k = c.args.ticket.caller in
    subst GoesOn (sym (c.finish_transfer.ensures.world c.held.inside.site.setup c.args.ticket ∙ ap (λ (w : World). after w k (Done c.args.ticket)) c.held.view_is))
    (goes_after c.going.inside.held k (Done c.args.ticket) c.going.invariant (subst (λ (w : World). next w k ≡ Does (Done c.args.ticket)) (sym c.going.view_is) c.requires))

pub returns : goal.returns
returns c =
    c.finish_transfer.ensures.world c.held.inside.site.setup c.args.ticket ∙ ap (λ (w : World). after w c.args.ticket.caller (Done c.args.ticket)) (c.held.view_is ∙ c.going.view_is)
