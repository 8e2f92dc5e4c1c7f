use Rattle.std.proofs.Common.{◌++◌, ◌∙◌, ℕ, List, flat_map, sym, ap, arith}
use Rattle.std.proofs.lemmas.List.{take_all}
use Rattle.std.proofs.lemmas.List.Folds.{flat_map-map}
use Rattle.cf_types.specs.Lines.{ended}
use Rattle.cf_types.specs.declared.tree.DevLine.{DevLine}
use Rattle.run_rules.specs.Tree.{dev_text}
use Rattle.every_order.proofs.text.put_devices.Goals as goal

pub returns : goal.returns
returns c =
    c.loop-device.invariant
    ∙ ap (λ (t : List ℕ). c.args.out.now.items ++ t)
    (ap (λ (ds : List DevLine). flat_map (λ d. ended (dev_text d)) ds) (take_all c.loop-device.device-index c.args.devices.now (omega (arith, c.loop-device-test.false))) ∙ sym (flat_map-map ended dev_text c.args.devices.now))
