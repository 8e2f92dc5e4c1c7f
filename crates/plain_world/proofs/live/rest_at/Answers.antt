use Rattle.std.proofs.Common.{◌∙◌, ap, slice_set}
use Rattle.run_rules.specs.declared.world.Dev.{Dev}
use Rattle.run_rules.proofs.Order.{none_rested, one_rested}
use Rattle.plain_world.proofs.live.rest_at.Goals as goal

pub returns-in-Some : goal.returns-in-Some
returns-in-Some c =
    let found = rw c.deref.ensures.value at c.in-Some.ensures in
    let devices = c.args.devices.now.items in
    let seen = c.index_mut.result.now in
    ap (λ (d : Dev). slice_set devices c.in-Some.place (record d { asleep = c.args.asleep })) c.index_mut.ensures.value
    ∙ one_rested devices c.in-Some.place c.args.serial c.args.asleep seen c.requires found.0 (found.1 seen)

pub returns-in-None : goal.returns-in-None
returns-in-None c = none_rested c.args.devices.now.items c.args.serial c.args.asleep (rw c.deref.ensures.value at c.in-None.ensures)
