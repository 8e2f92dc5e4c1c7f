use Rattle.std.proofs.Common.{◌≡◌, ◌++◌, length, take, drop, map, ap, ◌∙◌}
use Rattle.run_rules.specs.After.{with_sleep}
use Rattle.dev_tree.proofs.Alike.{map_alike, sleep_plain}
use Rattle.dev_tree.proofs.BareLaws.{bare_alike}
use Rattle.dev_tree.proofs.Halves.{given_back}
use Rattle.dev_tree.proofs.Kept.{sound_marked}
use Rattle.dev_tree.proofs.OnSpots.{on_alike}
use Rattle.std.proofs.Common.{List, sym, subst}
use Rattle.run_rules.specs.declared.world.Dev.{Dev}
use Rattle.dev_tree.specs.Rest.{AreResting}
use Rattle.dev_tree.proofs.tree.DevTree.set_asleep.Goals as goal

pub invariant_of-self : goal.invariant_of-self
invariant_of-self c =
    let old = c.self.inside.live.items in
    let new = c.mark_sleep.new.live in
    let back : take c.self.inside.live.len (new ++ drop (length new) old) ≡ map (with_sleep c.args.serial c.args.asleep) old =
    given_back c.self.inside.live.len old new (c.mark_sleep.auto.live ∙ c.deref_mut.ensures.len) ∙ c.mark_sleep.ensures ∙ ap (map (with_sleep c.args.serial c.args.asleep)) c.deref_mut.ensures.value in
    let same = map_alike (with_sleep c.args.serial c.args.asleep) (sleep_plain c.args.serial c.args.asleep) old in
    rw back (
      sound_marked old (map (with_sleep c.args.serial c.args.asleep) old) c.self.inside.drivers.items c.self.inside.next same c.self.invariant.0,
      (λ x. c.self.invariant.1.0 x ∙ on_alike old (map (with_sleep c.args.serial c.args.asleep) old) x same, (subst (λ (ds : List Dev). AreResting (map (with_sleep c.args.serial c.args.asleep) ds) c.marked-self-inside.result) c.deref.ensures.value (c.marked-self-inside.ensures (subst (λ (ds : List Dev). AreResting ds c.self.inside.rest) (sym c.deref.ensures.value) c.self.invariant.1.1.0)), bare_alike old (map (with_sleep c.args.serial c.args.asleep) old) c.self.inside.bare.items same c.self.invariant.1.1.1)),
    )
