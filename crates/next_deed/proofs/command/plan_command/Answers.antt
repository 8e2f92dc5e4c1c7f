use Rattle.std.proofs.Common.{◌≡◌, ◌∙◌, refl, sym, ap}
use Rattle.std.proofs.lemmas.Result.{IfOk-weaker}
use Rattle.cf_types.specs.declared.machine.Command.TheVariants as command
use Rattle.run_rules.specs.Next.{command_deed}
use Rattle.next_deed.proofs.command.plan_command.Goals as goal

pub returns-in-OpenDev : goal.returns-in-OpenDev
returns-in-OpenDev c =
    let w = c.args.going.now in
    ap (command_deed w c.args.caller c.args.number) (c.in-OpenDev.is ∙ ap command.OpenDev (sym c.bytes.ensures.bytes)) ∙ c.plan_open.ensures c.args.number ∙ c.answered_deed.ensures

pub returns-in-CloseDev : goal.returns-in-CloseDev
returns-in-CloseDev c =
    let w = c.args.going.now in
    ap (command_deed w c.args.caller c.args.number) (c.in-CloseDev.is ∙ ap command.CloseDev (sym c.bytes-in-CloseDev.ensures.bytes)) ∙ c.plan_close.ensures c.args.number ∙ c.answered_deed-in-CloseDev.ensures

pub returns-in-Detach : goal.returns-in-Detach
returns-in-Detach c =
    let w = c.args.going.now in
    IfOk-weaker _ _ (λ does. command_deed w c.args.caller c.args.number c.args.said.now ≡ does)
    (λ does is. ap (command_deed w c.args.caller c.args.number) (c.in-Detach.is ∙ ap command.Detach (sym c.bytes-in-Detach.ensures.bytes)) ∙ is)
    (c.plan_detach.ensures c.args.number)

pub returns-in-Plug : goal.returns-in-Plug
returns-in-Plug c =
    let w = c.args.going.now in
    ap (command_deed w c.args.caller c.args.number) (c.in-Plug.is ∙ ap command.Plug (sym c.bytes-in-Plug.ensures.bytes))
    ∙ c.plan_plug.ensures c.args.caller c.args.number ∙ c.answered_deed-in-Plug.ensures

pub returns-in-Unplug : goal.returns-in-Unplug
returns-in-Unplug c =
    let w = c.args.going.now in
    IfOk-weaker _ _ (λ does. command_deed w c.args.caller c.args.number c.args.said.now ≡ does)
    (λ does is. ap (command_deed w c.args.caller c.args.number) (c.in-Unplug.is ∙ ap command.Unplug (sym c.bytes-in-Unplug.ensures.bytes)) ∙ is)
    (c.plan_pull.ensures c.args.number)

pub returns-in-OpenSole : goal.returns-in-OpenSole
returns-in-OpenSole c =
    let w = c.args.going.now in
    ap (command_deed w c.args.caller c.args.number) (c.in-OpenSole.is ∙ ap command.OpenSole (sym c.bytes-in-OpenSole.ensures.bytes)) ∙ c.plan_open_sole.ensures c.args.number ∙ c.answered_deed-in-OpenSole.ensures

pub returns-in-Rescan : goal.returns-in-Rescan
unfolding command_deed
returns-in-Rescan c =
    ap (command_deed c.args.going.now c.args.caller c.args.number) c.in-Rescan.is ∙ (rw (c.bytes-in-Rescan.ensures.bytes, c.items.ensures) at c.plan_rescan.ensures) ∙ c.answered_deed-in-Rescan.ensures
