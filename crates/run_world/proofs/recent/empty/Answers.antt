use Rattle.std.proofs.Common.{◌≡◌, None, arith, refl}
use Rattle.run_rules.proofs.Devices.{all_snoc}
use Rattle.run_world.proofs.recent.empty.Goals as goal

pub loop-place-init : goal.loop-place-init
loop-place-init g c = (rw c.in_ok-kept.ensures.items tt, (c.in_ok-kept.ensures.len, c.in_ok-kept.ensures.capacity))

pub push_reserved-requires : goal.push_reserved-requires
push_reserved-requires g c = omega (arith, c.loop-place.invariant.1.0, c.loop-place.invariant.1.1, c.loop-place-test.true)

pub loop-place-preserved : goal.loop-place-preserved
loop-place-preserved g c = (
  rw c.push_reserved.ensures.items (all_snoc (λ place. place ≡ None) c.loop-place.kept.items None c.loop-place.invariant.0 refl),
  (omega (arith, c.push_reserved.ensures.len, c.loop-place.invariant.1.0), omega (arith, c.push_reserved.ensures.capacity, c.loop-place.invariant.1.1)),
)

pub returns : goal.returns
returns g c = c.loop-place.invariant.0
