use Rattle.std.proofs.Common.{◌∙◌, ◌-◌, ◌==◌, ℕ, ap, sym}
use Rattle.plain_world.proofs.Kept.{one_less}
use Rattle.plain_world.proofs.Stands.{one_if}
use Rattle.plain_world.proofs.live.Live.remove.Goals as goal

pub invariant_of-self : goal.invariant_of-self
invariant_of-self c = (
  rw c.in-Some.ensures.gone (one_less c.self.inside.devices.items c.self.inside.next c.args.serial c.self.invariant.0),
  λ x.
      c.leave.ensures x ∙ ap (λ (n : ℕ). n - one_if (c.in-Some.spot == x)) (c.self.invariant.1 x)
      ∙ sym (c.in-Some.ensures.left x),
)
