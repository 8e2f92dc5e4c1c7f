use Rattle.std.proofs.Common.{◌∙◌, ◌+◌, ◌==◌, ℕ, ap, sym, arith}
use Rattle.std.proofs.lemmas.List.Sums.{count_by-le-length}
use Rattle.run_rules.specs.declared.world.Dev.{Dev}
use Rattle.plain_world.specs.LiveDevices.{device_of}
use Rattle.plain_world.proofs.Kept.{one_more}
use Rattle.plain_world.proofs.Stands.{counted_more, one_if}
use Rattle.plain_world.proofs.live.Live.push.Goals as goal

pub enter-requires : goal.enter-requires
enter-requires c =
    let old = c.self.inside.devices in
    let spot = c.args.arrival.spot in
    let same = old.ok.0 in
    let low = old.ok.1 in
    let within = old.small in
    record {
      reached = c.in_ok-reach.ensures.ok;
      low = omega (arith, c.in_ok-reach.ensures.same spot, c.self.invariant.1 spot, count_by-le-length (λ (d : Dev). d.spot == spot) old.items, same, low, within);
    }

pub invariant_of-self-2 : goal.invariant_of-self-2
invariant_of-self-2 c =
    let old = c.self.inside in
    rw c.in_ok-push.ensures.items (
      one_more old.devices.items old.next c.args.arrival c.self.invariant.0,
      λ x.
          c.enter.ensures x ∙ ap (λ (n : ℕ). n + one_if (c.args.arrival.spot == x)) (c.in_ok-reach.ensures.same x ∙ c.self.invariant.1 x)
          ∙ sym (counted_more old.devices.items (device_of old.next c.args.arrival) x),
    )
