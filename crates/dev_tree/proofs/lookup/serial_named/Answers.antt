use Rattle.std.proofs.Common.{◌≤◌, ℕ, false, None, List, [], ◌∷◌, length, find, sym, ap, ◌∙◌, arith}
use Rattle.std.specs.Prelude.{option_map}
use Rattle.std.specs.List.{zip}
use Rattle.std.proofs.lemmas.List.{drop_all}
use Rattle.run_rules.specs.declared.world.Dev.{Dev}
use Rattle.dev_tree.specs.Tree.{has_name}
use Rattle.dev_tree.proofs.Named.{named_here, other_driver, other_unit}
use Rattle.dev_tree.proofs.lookup.serial_named.Goals as goal
use Rattle.dev_tree.proofs.lookup.serial_named.Goals.{else-drivers-place-via-then-drivers-place+else-live_device-unit, else-drivers-place-via-else-drivers-place}

pub returns-then-live_device-unit : goal.returns-then-live_device-unit
returns-then-live_device-unit c =
    named_here c.args.live.now c.args.drivers.now c.args.device c.args.unit c.loop-place.place _ (omega arith) c.requires c.loop-place.invariant c.if-drivers-place.true c.if-live_device-unit.true

pub loop-place-preserved : goal.loop-place-preserved
loop-place-preserved c =
    elim c.else-drivers-place.branch [
      | else-drivers-place-via-then-drivers-place+else-live_device-unit w ↦
          other_unit c.args.live.now c.args.drivers.now c.args.device c.args.unit c.loop-place.place _ (omega arith) c.requires c.loop-place.invariant w.if-live_device-unit.false
      | else-drivers-place-via-else-drivers-place w ↦
          other_driver c.args.live.now c.args.drivers.now c.args.device c.args.unit c.loop-place.place (record { serial = 0; row = 0; unit = 0; parent = 0; spot = 0; asleep = false; condemned = None }) (omega arith) c.requires c.loop-place.invariant w.if-drivers-place.false
    ]

short : (live : List Dev) (drivers : List ℕ) → length (zip live drivers) ≤ length live
short [] drivers = omega arith
short (d ∷ live) [] = omega arith
short (d ∷ live) (k ∷ drivers) = omega (arith, short live drivers)

pub returns : goal.returns
returns c =
    ap (option_map (λ p. p.0.serial))
    (sym c.loop-place.invariant ∙ ap (find (has_name c.args.device c.args.unit)) (drop_all c.loop-place.place (zip c.args.live.now c.args.drivers.now) (omega (arith, short c.args.live.now c.args.drivers.now))))
