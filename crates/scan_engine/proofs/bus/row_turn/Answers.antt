use Rattle.std.proofs.Common.{◌∙◌, sym}
use Rattle.scan_engine.proofs.BusLaws.{row_is}
use Rattle.scan_engine.proofs.bus.row_turn.Goals as goal

pub returns-in_err-spot : goal.returns-in_err-spot
returns-in_err-spot c =
    row_is c.args.machine.now c.args.children.spot c.args.bus c.args.row c.args.spot _ c.in_err-spot.ensures ∙ sym c.from_residual.ensures

pub returns : goal.returns
returns c = row_is c.args.machine.now c.args.children.spot c.args.bus c.args.row c.args.spot _ c.in_ok-spot.ensures
