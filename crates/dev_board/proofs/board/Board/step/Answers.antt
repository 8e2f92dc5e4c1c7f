use Rattle.std.proofs.Common.{◌∙◌, ap}
use Rattle.dev_board.specs.Shown.{began}
use Rattle.dev_board.specs.StateKept.{shown_of}
use Rattle.dev_board.proofs.Stays.{step_began}
use Rattle.dev_board.proofs.board.Board.step.Goals as goal

pub returns-clause-began : goal.returns-clause-began
returns-clause-began g c =
    step_began (shown_of c.self.inside.state) (shown_of c.step_state-stepped.new.state) c.args.caller c.step_state-stepped.result c.step_state-stepped.ensures.step ∙ ap began c.self.view_is
