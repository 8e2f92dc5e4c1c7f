use Rattle.std.proofs.Common.{◌∙◌, ap}
use Rattle.dev_board.specs.Shown.{began}
use Rattle.dev_board.specs.StateKept.{shown_of}
use Rattle.dev_board.proofs.Stays.{post_began}
use Rattle.dev_board.proofs.board.Board.post.Goals as goal

pub returns-clause-began : goal.returns-clause-began
returns-clause-began c =
    post_began (shown_of c.self.inside.state) (shown_of c.post_state-posted.new.state) _ c.post_state-posted.result c.post_state-posted.ensures.post ∙ ap began c.self.view_is
