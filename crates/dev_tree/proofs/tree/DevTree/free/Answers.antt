use Rattle.std.proofs.Common.{◌≡◌, ◌<◌, ◌∙◌, ℕ, ◌==◌, cond, length, Option, None, ap, sym, subst, arith}
use Rattle.run_rules.specs.declared.world.Dev.{Dev}
use Rattle.run_rules.specs.World.{children, device_on, serial_of}
use Rattle.dev_tree.specs.Tree.{Devices, AreSound, without_device}
use Rattle.dev_tree.proofs.BareLaws.{bare_less}
use Rattle.dev_tree.proofs.Gone.{rest_is}
use Rattle.dev_tree.proofs.Kept.{sound_without}
use Rattle.dev_tree.proofs.OnSpots.{on_removed}
use Rattle.std.proofs.Common.{List}
use Rattle.dev_tree.specs.Rest.{AreResting}
use Rattle.dev_tree.proofs.tree.DevTree.free.Goals as goal

pub invariant_of-self : goal.invariant_of-self
invariant_of-self c =
    let old : Devices = record { live = c.self.inside.live.items; drivers = c.self.inside.drivers.items; next = c.self.inside.next } in
    let seen : old ≡ c.args.self.now = c.self.view_is in
    let within : c.in-Some.place < length old.live = omega (arith, ap length c.deref.ensures.value, c.in-Some.ensures.0) in (
      subst AreSound
          (sym (rest_is old.live c.remove-gone.new.self.items old.drivers c.remove.new.self.items old.next c.in-Some.place c.args.serial c.deref.result.now c.self.invariant.0 c.deref.ensures.value c.in-Some.ensures c.remove-gone.ensures.items c.remove.ensures.items))
          (sound_without old c.args.serial c.self.invariant.0 (ap (λ (t : Devices). children t.live c.args.serial) seen ∙ c.requires.children)),
      (
        λ x.
            c.take_off.ensures x ∙ ap (λ (o : Option ℕ). cond (c.remove-gone.result.spot == x) None o) (c.self.invariant.1.0 x)
            ∙ ap (λ (d : Dev). cond (d.spot == x) None (serial_of (device_on old.live x))) c.remove-gone.ensures.value
            ∙ sym (ap (λ ds. serial_of (device_on ds x)) c.remove-gone.ensures.items ∙ on_removed old.live c.in-Some.place x c.remove-gone.result c.self.invariant.0.spots within),
        (
          subst (λ (ds : List Dev). AreResting ds c.without_one-self-inside.result) (sym c.remove-gone.ensures.items) (c.without_one-self-inside.ensures old.live c.in-Some.place within c.self.invariant.1.1.0),
          rw (c.remove-gone.ensures.items, c.remove-in-Some.ensures.items) (bare_less old.live c.in-Some.place c.self.inside.bare.items within c.self.invariant.1.1.1),
        ),
      ),
    )

pub returns-in-Some : goal.returns-in-Some
returns-in-Some c =
    let old : Devices = record { live = c.self.inside.live.items; drivers = c.self.inside.drivers.items; next = c.self.inside.next } in
    let seen : old ≡ c.args.self.now = c.self.view_is in
    rest_is old.live c.remove-gone.new.self.items old.drivers c.remove.new.self.items old.next c.in-Some.place c.args.serial c.deref.result.now c.self.invariant.0 c.deref.ensures.value c.in-Some.ensures c.remove-gone.ensures.items c.remove.ensures.items
    ∙ ap (λ t. without_device t c.args.serial) seen
