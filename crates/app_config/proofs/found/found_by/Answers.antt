use Rattle.std.proofs.Common.{refl, Err}
use Rattle.app_input.specs.declared.inputs.Inputs.TheVariants as input
use Rattle.app_config.proofs.FoundLaws.{boot_ran, follow_ran, history_retold, listed, load_ran, not_selected, not_selected_counted, play_ran, selected, tree_retold, watch_ran}
use Rattle.app_words.specs.Status.{status_of}
use Rattle.app_words.specs.declared.status.Status.TheVariants as status
use Rattle.app_config.proofs.AskedLaws.{selected_then, then_by, unselected_then}
use Rattle.app_config.proofs.found.found_by.Goals as goal

pub returns-in-Ioconf-clause-found : goal.returns-in-Ioconf-clause-found
returns-in-Ioconf-clause-found g c = listed _ c.args.inputs c.in-Ioconf.tables c.in-Ioconf.is

pub returns-in-Ok-clause-found : goal.returns-in-Ok-clause-found
returns-in-Ok-clause-found g c =
    selected (g.F.Files.told c.args.files.now) c.args.inputs c.in-Files.name c.items.result.now c.in-Ok.paths c.in-Files.is c.items.ensures c.in-Ok.ensures.selects.0

pub returns-in-Err-clause-found : goal.returns-in-Err-clause-found
returns-in-Err-clause-found g c =
    not_selected (g.F.Files.told c.args.files.now) c.args.inputs c.in-Files.name c.items.result.now _ _ c.in-Err.stop (Err c.status_of_stop.result)
    c.in-Files.is c.items.ensures c.status_of_stop.ensures c.in-Err.ensures.selects

pub returns-in-Err-clause-counted : goal.returns-in-Err-clause-counted
returns-in-Err-clause-counted g c =
    not_selected_counted (g.F.Files.told c.args.files.now) c.items.result.now _ _ c.in-Err.stop (Err c.status_of_stop.result)
    c.status_of_stop.ensures c.in-Err.ensures.selects

pub returns-in_ok-board-in-Boot-clause-found : goal.returns-in_ok-board-in-Boot-clause-found
returns-in_ok-board-in-Boot-clause-found g c =
    boot_ran _ c.args.inputs c.in-Boot.tables c.in-Boot.machine c.in_ok-board-in-Boot.board c.in-Boot.is c.in_ok-board-in-Boot.ensures

pub returns-in_ok-line-in-Load-clause-found : goal.returns-in_ok-line-in-Load-clause-found
returns-in_ok-line-in-Load-clause-found g c =
    load_ran _ c.args.inputs c.in-Load.count c.in-Load.tables c.in-Load.machine c.in_ok-line-in-Load.line.items c.in-Load.is c.in_ok-line-in-Load.ensures

pub returns-in_ok-board-in-Play-clause-found : goal.returns-in_ok-board-in-Play-clause-found
returns-in_ok-board-in-Play-clause-found g c =
    play_ran _ c.args.inputs c.in-Play.tables c.in-Play.machine c.in-Play.scripts c.in-Play.order c.items-in-Play.result.now c.in_ok-board-in-Play.board
    c.in-Play.is c.items-in-Play.ensures c.in_ok-board-in-Play.ensures

pub returns-in_ok-run-in-Replay-clause-found : goal.returns-in_ok-run-in-Replay-clause-found
returns-in_ok-run-in-Replay-clause-found g c =
    tree_retold _ c.args.inputs c.in-Replay.tables c.in-Replay.machine c.in-Replay.scripts c.in-Replay.history c.in_ok-run-in-Replay.run'.told c.in-Replay.is c.in_ok-run-in-Replay.ensures

pub returns-in_ok-run-in-Upgrade-clause-found : goal.returns-in_ok-run-in-Upgrade-clause-found
returns-in_ok-run-in-Upgrade-clause-found g c =
    history_retold _ c.args.inputs c.in-Upgrade.tables c.in-Upgrade.machine c.in-Upgrade.scripts c.in-Upgrade.history c.in_ok-run-in-Upgrade.run'.told c.in-Upgrade.is c.in_ok-run-in-Upgrade.ensures

pub returns-in-Ioconf-clause-asked : goal.returns-in-Ioconf-clause-asked
returns-in-Ioconf-clause-asked g c = then_by (g.F.Files.told c.args.files.now) c.args.inputs (input.Ioconf c.in-Ioconf.tables) status.Ok (g.F.Files.asked c.args.files.now) c.in-Ioconf.is refl

pub returns-in-Ok-clause-asked : goal.returns-in-Ok-clause-asked
returns-in-Ok-clause-asked g c =
    selected_then (g.F.Files.told c.args.files.now) c.args.inputs c.in-Files.name c.items.result.now _ _ c.in-Files.is c.items.ensures c.in-Ok.ensures.asked

pub returns-in-Err-clause-asked : goal.returns-in-Err-clause-asked
returns-in-Err-clause-asked g c =
    unselected_then (g.F.Files.told c.args.files.now) c.args.inputs c.in-Files.name c.items.result.now c.in-Err.stop (Err c.status_of_stop.result) _ _ c.in-Files.is c.items.ensures c.status_of_stop.ensures
    c.in-Err.ensures.asked

pub returns-in_ok-board-in-Boot-clause-asked : goal.returns-in_ok-board-in-Boot-clause-asked
returns-in_ok-board-in-Boot-clause-asked g c =
    then_by (g.F.Files.told c.args.files.now) c.args.inputs (input.Boot c.in-Boot.tables c.in-Boot.machine) status.Ok (g.F.Files.asked c.args.files.now) c.in-Boot.is refl

pub returns-in_ok-line-in-Load-clause-asked : goal.returns-in_ok-line-in-Load-clause-asked
returns-in_ok-line-in-Load-clause-asked g c =
    then_by (g.F.Files.told c.args.files.now) c.args.inputs (input.Load c.in-Load.count c.in-Load.tables c.in-Load.machine) status.Ok (g.F.Files.asked c.args.files.now) c.in-Load.is refl

pub returns-in_ok-board-in-Play-clause-asked : goal.returns-in_ok-board-in-Play-clause-asked
returns-in_ok-board-in-Play-clause-asked g c =
    then_by (g.F.Files.told c.args.files.now) c.args.inputs (input.Play c.in-Play.tables c.in-Play.machine c.in-Play.scripts c.in-Play.order) status.Ok (g.F.Files.asked c.args.files.now) c.in-Play.is refl

pub returns-in_err-board-in-Boot-clause-asked : goal.returns-in_err-board-in-Boot-clause-asked
returns-in_err-board-in-Boot-clause-asked g c =
    then_by (g.F.Files.told c.args.files.now) c.args.inputs (input.Boot c.in-Boot.tables c.in-Boot.machine) (status_of c.from_residual.result) (g.F.Files.asked c.args.files.now) c.in-Boot.is refl

pub returns-in_err-line-in-Load-clause-asked : goal.returns-in_err-line-in-Load-clause-asked
returns-in_err-line-in-Load-clause-asked g c =
    then_by (g.F.Files.told c.args.files.now) c.args.inputs (input.Load c.in-Load.count c.in-Load.tables c.in-Load.machine) (status_of c.from_residual-in_err-line-in-Load.result) (g.F.Files.asked c.args.files.now) c.in-Load.is refl

pub returns-in_err-board-in-Play-clause-asked : goal.returns-in_err-board-in-Play-clause-asked
returns-in_err-board-in-Play-clause-asked g c =
    then_by (g.F.Files.told c.args.files.now) c.args.inputs (input.Play c.in-Play.tables c.in-Play.machine c.in-Play.scripts c.in-Play.order) (status_of c.from_residual-in_err-board-in-Play.result) (g.F.Files.asked c.args.files.now) c.in-Play.is refl

pub returns-in_ok-run-in-Watch-clause-found : goal.returns-in_ok-run-in-Watch-clause-found
returns-in_ok-run-in-Watch-clause-found g c =
    watch_ran _ c.args.inputs c.in-Watch.tables c.in-Watch.machine c.in-Watch.scripts c.in-Watch.watch c.items-in-Watch.result.now c.in_ok-run-in-Watch.run'.readings c.in_ok-run-in-Watch.run'.board
    c.in-Watch.is c.items-in-Watch.ensures c.in_ok-run-in-Watch.ensures

pub returns-in_ok-run-in-Watch-clause-asked : goal.returns-in_ok-run-in-Watch-clause-asked
returns-in_ok-run-in-Watch-clause-asked g c =
    then_by (g.F.Files.told c.args.files.now) c.args.inputs (input.Watch c.in-Watch.tables c.in-Watch.machine c.in-Watch.scripts c.in-Watch.watch) status.Ok (g.F.Files.asked c.args.files.now) c.in-Watch.is refl

pub returns-in_err-run-in-Watch-clause-asked : goal.returns-in_err-run-in-Watch-clause-asked
returns-in_err-run-in-Watch-clause-asked g c =
    then_by (g.F.Files.told c.args.files.now) c.args.inputs (input.Watch c.in-Watch.tables c.in-Watch.machine c.in-Watch.scripts c.in-Watch.watch) (status_of c.from_residual-in_err-run-in-Watch.result) (g.F.Files.asked c.args.files.now) c.in-Watch.is refl

pub returns-in_ok-run-in-Follow-clause-found : goal.returns-in_ok-run-in-Follow-clause-found
returns-in_ok-run-in-Follow-clause-found g c =
    follow_ran _ c.args.inputs c.in-Follow.tables _ c.in-Follow.machine c.in-Follow.plan _ c.in-Follow.is c.in_ok-run-in-Follow.ensures.tables c.in_ok-run-in-Follow.ensures.lines

pub returns-in_ok-run-in-Follow-clause-asked : goal.returns-in_ok-run-in-Follow-clause-asked
returns-in_ok-run-in-Follow-clause-asked g c =
    then_by (g.F.Files.told c.args.files.now) c.args.inputs (input.Follow c.in-Follow.tables c.in-Follow.machine c.in-Follow.plan) status.Ok (g.F.Files.asked c.args.files.now) c.in-Follow.is refl

pub returns-in_err-run-in-Follow-clause-asked : goal.returns-in_err-run-in-Follow-clause-asked
returns-in_err-run-in-Follow-clause-asked g c =
    then_by (g.F.Files.told c.args.files.now) c.args.inputs (input.Follow c.in-Follow.tables c.in-Follow.machine c.in-Follow.plan) (status_of c.from_residual-in_err-run-in-Follow.result) (g.F.Files.asked c.args.files.now) c.in-Follow.is refl
