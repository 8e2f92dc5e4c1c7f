use Rattle.std.proofs.Common.{subst, arith}
use Rattle.app_input.specs.Inputs.{FormedInputs}
use Rattle.sample_machine.proofs.board_of.Goals as goal

pub ready_board-requires-clause-tables : goal.ready_board-requires-clause-tables
ready_board-requires-clause-tables c = let formed = subst FormedInputs c.in-Run.is c.requires.formed in formed.0

pub ready_board-requires-clause-machine : goal.ready_board-requires-clause-machine
ready_board-requires-clause-machine c = let formed = subst FormedInputs c.in-Run.is c.requires.formed in formed.1

pub ready_board-requires-clause-some : goal.ready_board-requires-clause-some
ready_board-requires-clause-some c =
    let formed = subst FormedInputs c.in-Run.is c.requires.formed in
    let some = formed.2.some in
    omega arith

pub ready_board-requires-clause-few_scripts : goal.ready_board-requires-clause-few_scripts
ready_board-requires-clause-few_scripts c = let formed = subst FormedInputs c.in-Run.is c.requires.formed in formed.2.few

pub ready_board-requires-clause-scripts : goal.ready_board-requires-clause-scripts
ready_board-requires-clause-scripts c = let formed = subst FormedInputs c.in-Run.is c.requires.formed in formed.2.each

pub returns : goal.returns
returns c = c.ready_board.ensures
