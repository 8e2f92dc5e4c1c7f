use Rattle.std.proofs.Common.{[]}
use Rattle.run_rules.specs.World.{setup_of}
use Rattle.app_tasks.proofs.Attached.{boot_devices}
use Rattle.app_tasks.proofs.RanLaws.{summed}
use Rattle.app_tasks.proofs.load.loaded.Goals as goal

pub summary_of-line-requires : goal.summary_of-line-requires
summary_of-line-requires c = boot_devices (setup_of c.args.tables c.args.machine []) c.in_ok-board.board.events c.in_ok-board.board.world c.in_ok-board.ensures.boot

pub returns : goal.returns
returns c = summed c.args.count c.args.tables c.args.machine c.in_ok-board.board c.summary_of-line.result c.in_ok-board.ensures c.summary_of-line.ensures
