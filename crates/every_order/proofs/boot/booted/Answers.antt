use Rattle.std.proofs.Common.{◌≡◌, ◌∙◌, List, refl, sym, ap, subst}
use Rattle.run_rules.specs.declared.deed.Choice.TheVariants.{Does}
use Rattle.run_rules.specs.declared.world.Dev.{Dev}
use Rattle.run_rules.specs.After.{after}
use Rattle.run_rules.specs.Next.{next}
use Rattle.run_rules.specs.World.{World}
use Rattle.plain_search.specs.Open.{Follows}
use Rattle.plain_world.specs.declared.rules.Rules.{Rules}
use Rattle.plain_world.specs.Plain.{world_of}
use Rattle.every_order.proofs.Booting.{booting_first, booting_more}
use Rattle.plain_world.proofs.Going.{none_first}
use Rattle.every_order.proofs.boot.booted.Goals as goal

pub loop-event-init : goal.loop-event-init
loop-event-init c =
    let s = c.args.seeker.now.rules.now in
    record {
      rules = refl;
      follows = subst (λ (ds : List Dev). Follows c.args.seeker.now ds) (sym (none_first s c.args.opening c.requires.opens)) c.requires.follows;
      booting = booting_first s c.args.opening c.stands.ensures c.requires.opens;
    }

pub loop-event-preserved : goal.loop-event-preserved
loop-event-preserved c =
    let s = c.args.seeker.now.rules.now in
    let so = c.loop-event.invariant in
    let same : c.heed.new.self.rules.now ≡ c.args.seeker.now.rules.now = c.heed.ensures.rules ∙ so.rules in
    record {
      rules = same;
      follows =
          subst (λ (ds : List Dev). Follows c.heed.new.self ds) (sym (ap (λ (w : World). w.live) c.in_ok-boot_on.ensures))
          (c.heed.ensures.follows (world_of c.heed.new.self.rules.now c.loop-event.plain) 0 refl);
      booting =
          booting_more s c.loop-event.plain c.boot_on.new.plain c.loop-event._event c.in_ok-deed.deed c.stands.ensures so.booting
          (subst (λ (r : Rules). next (world_of r c.loop-event.plain) 0 ≡ Does c.in_ok-deed.deed) so.rules c.in_ok-deed.ensures)
          (subst (λ (r : Rules). world_of r c.boot_on.new.plain ≡ after (world_of r c.loop-event.plain) 0 c.in_ok-deed.deed) same c.in_ok-boot_on.ensures);
    }
