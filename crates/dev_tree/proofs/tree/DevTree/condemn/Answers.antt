use Rattle.std.proofs.Common.{◌≡◌, ◌++◌, length, take, drop, map, ap, ◌∙◌}
use Rattle.run_rules.specs.After.{with_condemner}
use Rattle.dev_tree.proofs.Alike.{map_alike, condemner_plain}
use Rattle.dev_tree.proofs.BareLaws.{bare_alike}
use Rattle.dev_tree.proofs.Halves.{given_back}
use Rattle.dev_tree.proofs.Kept.{sound_marked}
use Rattle.dev_tree.proofs.OnSpots.{on_alike}
use Rattle.dev_tree.proofs.RestLaws.{rest_mapped, condemner_rest}
use Rattle.dev_tree.proofs.tree.DevTree.condemn.Goals as goal

pub invariant_of-self : goal.invariant_of-self
invariant_of-self c =
    let old = c.self.inside.live.items in
    let new = c.mark_condemned.new.live in
    let marked = with_condemner old c.args.caller c.args.serial in
    let back : take c.self.inside.live.len (new ++ drop (length new) old) ≡ map marked old =
    given_back c.self.inside.live.len old new (c.mark_condemned.auto.live ∙ c.deref_mut.ensures.len) ∙ c.mark_condemned.ensures ∙ ap (λ ds. map (with_condemner ds c.args.caller c.args.serial) ds) c.deref_mut.ensures.value in
    let same = map_alike marked (condemner_plain old c.args.caller c.args.serial) old in
    rw back (
      sound_marked old (map marked old) c.self.inside.drivers.items c.self.inside.next same c.self.invariant.0,
      (λ x. c.self.invariant.1.0 x ∙ on_alike old (map marked old) x same, (rest_mapped marked (condemner_rest old c.args.caller c.args.serial) old c.self.inside.rest c.self.invariant.1.1.0, bare_alike old (map marked old) c.self.inside.bare.items same c.self.invariant.1.1.1)),
    )
