use Rattle.std.proofs.Common.{◌≡◌, IfOk, List, subst}
use Rattle.cf_types.specs.declared.machine.Given.{Given}
use Rattle.run_rules.specs.Next.{command_deed, on_device, rescanning}
use Rattle.plain_world.specs.Plain.{world_of}
use Rattle.plain_choice.proofs.command.command_deed.Goals as goal

pub returns-in-Rescan : goal.returns-in-Rescan
unfolding command_deed
returns-in-Rescan c =
    let w = world_of c.args.rules.now c.args.plain.now in
    let with_given = λ (given : List Given). IfOk c.rescan.result (λ does. on_device w c.in-Rescan.device (λ d. rescanning w d c.in-Rescan.attr given) ≡ does) in
    rw c.in-Rescan.is (subst with_given c.items.ensures c.rescan.ensures)
