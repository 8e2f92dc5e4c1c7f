use Rattle.std.proofs.Common.{◌≡◌, ◌∙◌, ℕ, Bool, List, cond, Option, Some, None, [], ◌∷◌, ◌++◌, ap, sym, subst}
use Rattle.std.specs.Prelude.{IsTrue, ◌||◌, ◌==◌, false}
use Rattle.run_rules.specs.World.{is_live}
use Rattle.run_rules.specs.Search.{is_occupied}
use Rattle.run_rules.specs.declared.world.Dev.{Dev}
use Rattle.dev_tree.specs.Bare.{AreBare, AreUnmarked}
use Rattle.dev_tree.specs.Tree.{Devices, is_named}
use Rattle.dev_tree.proofs.BareLaws.{bare_more}
use Rattle.dev_tree.proofs.Kept.{known_below, sound_with}
use Rattle.dev_tree.proofs.OnSpots.{on_with}
use Rattle.std.proofs.Common.{length, length-append, refl, arith}
use Rattle.dev_tree.proofs.tree.DevTree.attach.Goals as goal

pub invariant_of-self-2 : goal.invariant_of-self-2
invariant_of-self-2 c =
    let old : Devices = record { live = c.self.inside.live.items; drivers = c.self.inside.drivers.items; next = c.self.inside.next } in
    let seen : old ≡ c.args.self.now = c.self.view_is in
    let live : c.append.new.live.items ≡ old.live ++ record { serial = old.next; row = c.args.row; unit = c.args.unit; parent = c.args.parent; spot = c.args.spot; asleep = false; condemned = None } ∷ [] =
    c.append.ensures ∙ ap (λ xs. xs ++ record { serial = old.next; row = c.args.row; unit = c.args.unit; parent = c.args.parent; spot = c.args.spot; asleep = false; condemned = None } ∷ []) c.in_ok-reserve.ensures.items in
    let free = ap (λ (t : Devices). is_occupied t.live c.args.spot) seen ∙ c.requires.spot in
    rw (live, c.in_ok-push.ensures.items) (
      (sound_with old c.args.device (record { row = c.args.row; unit = c.args.unit; parent = c.args.parent; spot = c.args.spot }) c.self.invariant.0
          (ap (λ t. is_named t c.args.device c.args.unit) seen ∙ c.requires.name)
          free
          (subst (λ (t : Devices). IsTrue (c.args.parent == 0 || is_live t.live c.args.parent)) (sym seen) c.requires.parent)),
      (
        λ x. c.put_on.ensures x ∙ ap (λ (o : Option ℕ). cond (c.args.spot == x) (Some old.next) o) (c.in_ok-reach.ensures.same x ∙ c.self.invariant.1.0 x)
            ∙ sym (on_with old.live (record { serial = old.next; row = c.args.row; unit = c.args.unit; parent = c.args.parent; spot = c.args.spot; asleep = false; condemned = None }) x free),
        (
          c.with_one-self-inside.ensures old.live (record { serial = old.next; row = c.args.row; unit = c.args.unit; parent = c.args.parent; spot = c.args.spot; asleep = false; condemned = None }) (omega (arith, c.len.ensures, ap length live, length-append old.live (record { serial = old.next; row = c.args.row; unit = c.args.unit; parent = c.args.parent; spot = c.args.spot; asleep = false; condemned = None } ∷ []))) refl c.self.invariant.1.1.0,
          subst (λ (bs : List Bool). AreBare (old.live ++ record { serial = old.next; row = c.args.row; unit = c.args.unit; parent = c.args.parent; spot = c.args.spot; asleep = false; condemned = None } ∷ []) bs) (sym c.append_mark.ensures)
              (bare_more old.live old.next (record { serial = old.next; row = c.args.row; unit = c.args.unit; parent = c.args.parent; spot = c.args.spot; asleep = false; condemned = None }) c.self.inside.bare.items c.unmark.new.bare.items
              c.self.invariant.0.placed refl
              (known_below old c.args.parent c.self.invariant.0 (subst (λ (t : Devices). IsTrue (c.args.parent == 0 || is_live t.live c.args.parent)) (sym seen) c.requires.parent))
              (c.unmark.ensures.count ∙ ap length c.in_ok-reserve-2.ensures.items)
              (subst (λ (bs : List Bool). AreUnmarked old.live c.args.parent bs c.unmark.new.bare.items) c.in_ok-reserve-2.ensures.items
              (subst (λ (ds : List Dev). AreUnmarked ds c.args.parent c.reserve-2.new.self.items c.unmark.new.bare.items) (c.deref.ensures.value ∙ c.in_ok-reserve.ensures.items) c.unmark.ensures.marks))
              c.self.invariant.1.1.1),
        ),
      ),
    )
