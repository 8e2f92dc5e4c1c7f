use Rattle.std.proofs.Common.{List, sym, ap, ◌∙◌, subst, arith}
use Rattle.run_rules.specs.declared.event.Event.{Event}
use Rattle.run_rules.specs.World.{World}
use Rattle.run_rules.specs.Counts.{ends_of, dids_of}
use Rattle.deed_effect.specs.Agreement.{slots_of}
use Rattle.board_lock.specs.Carried.{CarriedRun}
use Rattle.board_lock.proofs.Opened.{same_scripts}
use Rattle.board_lock.proofs.locked.Locked.halt.Goals as goal

pub invariant_of-self : goal.invariant_of-self
invariant_of-self g c =
    let kept = c.self.invariant.0 in
    let scripts = same_scripts c.self.inside.board g.N.Naming.opening kept.opening in
    let same = c.halt.ensures.same in
    let carried = subst (λ (x : List Event × World). CarriedRun g.N.Naming.carried g.N.Naming.opening x.0 x.1) (λ i. (sym c.stop.ensures.events i, sym c.stop.ensures.world i)) c.self.invariant.1 in (
      record {
        opening = c.stop.ensures.began ∙ kept.opening;
        closings = same.0 ∙ (kept.closings ∙ ap ends_of (sym c.stop.ensures.events));
        dids = same.1 ∙ (kept.dids ∙ ap dids_of (sym c.stop.ensures.events));
        rights =
            let few = c.stands.ensures.scripts in
            let all = kept.rights in
            let one = c.halt.ensures.right in
            let stops = c.stop.ensures.stops in
            omega arith;
        words = kept.words;
        states = kept.states ∙ ap slots_of (sym c.stop.ensures.world);
      },
      carried,
    )
