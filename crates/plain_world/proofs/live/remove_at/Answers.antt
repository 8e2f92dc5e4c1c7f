use Rattle.std.proofs.Common.{◌∙◌, ◌-◌, ◌==◌, List, refl, ap, sym}
use Rattle.run_rules.specs.declared.world.Dev.{Dev}
use Rattle.plain_world.specs.LiveDevices.{standing_on}
use Rattle.run_rules.proofs.Order.{live_gone, none_goes}
use Rattle.plain_world.proofs.Stands.{counted_less, one_if}
use Rattle.plain_world.proofs.live.remove_at.Goals as goal

pub returns-in-Some : goal.returns-in-Some
returns-in-Some c =
    let found = rw c.deref.ensures.value at c.in-Some.ensures in
    let devices = c.args.devices.now.items in
    let gone = c.remove-device.result in
    record {
      gone = c.remove-device.ensures.items ∙ live_gone devices c.in-Some.place c.args.serial gone c.requires found.0 (found.1 gone);
      left = λ x.
          ap (λ (ds : List Dev). standing_on ds x) c.remove-device.ensures.items ∙ counted_less devices c.in-Some.place gone x found.0
          ∙ ap (λ (d : Dev). standing_on devices x - one_if (d.spot == x)) (sym c.remove-device.ensures.value);
    }

pub returns-in-None : goal.returns-in-None
returns-in-None c = record { gone = none_goes c.args.devices.now.items c.args.serial (rw c.deref.ensures.value at c.in-None.ensures); left = refl }
