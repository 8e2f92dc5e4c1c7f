use Rattle.std.proofs.Common.{◌≡◌, ◌∙◌, ℕ, List, Option, None, replicate, refl, sym, ap, subst}
use Rattle.run_rules.specs.declared.deed.Choice.TheVariants.{Does}
use Rattle.run_rules.specs.declared.world.Dev.{Dev}
use Rattle.run_rules.specs.After.{after}
use Rattle.run_rules.specs.Next.{next}
use Rattle.run_rules.specs.World.{Caller, World, is_ended}
use Rattle.plain_search.specs.Open.{Follows}
use Rattle.plain_world.specs.declared.rules.Rules.{Rules}
use Rattle.plain_world.specs.Plain.{state_at, world_of}
use Rattle.plain_world.proofs.RulesLaws.{spots_are}
use Rattle.boot_looks.specs.declared.visit.Look.{Look}
use Rattle.boot_looks.specs.Looks.{AreBootLooks, AreSeen}
use Rattle.plain_world.proofs.Going.{none_first}
use Rattle.boot_looks.proofs.Looking.{looked, looking_first, looking_more}
use Rattle.boot_looks.proofs.boot.looks_from.Goals as goal

pub loop-turn-init : goal.loop-turn-init
loop-turn-init c =
    let s = c.args.seeker.now.rules.now in
    record {
      rules = refl;
      follows = subst (λ (ds : List Dev). Follows c.args.seeker.now ds) (sym (none_first s c.args.opening c.requires.opens)) c.requires.follows;
      looking = looking_first s c.args.opening c.in_ok-looks.looks.items c.stands.ensures c.requires.opens
          (c.in_ok-looks.ensures ∙ ap (λ (n : ℕ). replicate n None) (c.len.ensures ∙ spots_are c.rules.inside s c.rules.view_is));
    }

pub returns-then-has_ended : goal.returns-then-has_ended
returns-then-has_ended c =
    let s = c.args.seeker.now.rules.now in
    let so = c.loop-turn.invariant.looking in
    subst (λ (looks : List (Option Look)). AreBootLooks s (record { looks = looks; end = c.loop-turn.plain })) (sym c.from_vec-looks.ensures)
    (looked s c.loop-turn._turn c.loop-turn.plain c.loop-turn.looks.items so
    (ap (λ (callers : List Caller). is_ended (state_at callers 0).doing) (sym c.deref.ensures.value) ∙ sym c.has_ended.ensures ∙ c.if-has_ended.true))

pub loop-turn-preserved : goal.loop-turn-preserved
loop-turn-preserved c =
    let s = c.args.seeker.now.rules.now in
    let so = c.loop-turn.invariant in
    let p = c.loop-turn.plain in
    let q = c.boot_on.new.plain in
    let d = c.in_ok-deed.deed in
    let same : c.heed.new.self.rules.now ≡ c.args.seeker.now.rules.now = c.heed.ensures.rules ∙ so.rules in
    record {
      rules = same;
      follows =
          subst (λ (ds : List Dev). Follows c.heed.new.self ds) (sym (ap (λ (w : World). w.live) c.in_ok-boot_on.ensures))
          (c.heed.ensures.follows (world_of c.heed.new.self.rules.now p) 0 refl);
      looking =
          looking_more s c.loop-turn._turn p q d c.loop-turn.looks.items c.see.new.looks.items c.stands.ensures so.looking
          (subst (λ (r : Rules). next (world_of r p) 0 ≡ Does d) so.rules c.in_ok-deed.ensures)
          (subst (λ (r : Rules). world_of r q ≡ after (world_of r p) 0 d) same c.in_ok-boot_on.ensures)
          (subst (λ (r : Rules). AreSeen (world_of r p) p.live d c.loop-turn.looks.items c.see.new.looks.items) so.rules c.in_ok-see.ensures);
    }
