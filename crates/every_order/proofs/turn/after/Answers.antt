use Rattle.std.proofs.Common.{◌≡◌, ◌∙◌, ap, sym, subst, arith}
use Rattle.run_rules.specs.After.{after}
use Rattle.run_rules.specs.Next.{next}
use Rattle.run_rules.specs.World.{World}
use Rattle.run_rules.specs.declared.deed.Choice.TheVariants.{Does}
use Rattle.run_sound.specs.Kept.{Kept}
use Rattle.plain_world.specs.Plain.{world_of}
use Rattle.plain_world.proofs.Ready.{has_caller}
use Rattle.plain_effect.proofs.Places.{has_place}
use Rattle.plain_world.proofs.Going.{few_called}
use Rattle.every_order.proofs.turn.after.Goals as goal

pub apply-requires : goal.apply-requires
apply-requires c =
    let s = c.args.rules.now in
    let left = c.in_ok-left.left in
    let same : world_of s left ≡ world_of s c.args.plain.now = c.in_ok-left.ensures s in
    let chosen : next (world_of s left) c.args.caller ≡ Does c.args.deed.now = subst (λ (w : World). next w c.args.caller ≡ Does c.args.deed.now) (sym same) c.requires.due in
    record {
      caller = has_caller s left c.args.caller c.args.deed.now c.stands.ensures (subst Kept (sym same) c.requires.kept) chosen;
      next = omega (arith, ap (λ (w : World). w.next) same, c.requires.next);
      place = has_place (world_of s left) c.args.caller c.args.deed.now (few_called left) chosen;
    }

pub returns : goal.returns
returns c =
    let s = c.args.rules.now in
    let same : world_of s c.in_ok-left.left ≡ world_of s c.args.plain.now = c.in_ok-left.ensures s in
    c.in_ok-apply.ensures ∙ ap (λ (w : World). after w c.args.caller c.args.deed.now) same
