use Rattle.dev_board.proofs.TurnLaws.{closed_plays, did_plays, waits_plays}
use Rattle.dev_board.proofs.turns.turn.Goals as goal

pub returns-in-Did-clause-played : goal.returns-in-Did-clause-played
returns-in-Did-clause-played c = did_plays c.args.board.now c.step.new.self c.args.caller c.in-Did.field-0 c.in-Did.field-1 c.in-Did.ensures.step.2

pub returns-in-Waits-clause-played : goal.returns-in-Waits-clause-played
returns-in-Waits-clause-played c =
    let is = c.in-Waits.ensures.step in
    waits_plays c.args.board.now c.step.new.self c.args.caller c.in-Waits.field-0 c.args.board.now.world.live is.1 c.in-Waits.ensures.denials is.2

pub returns-in-Closed-clause-played : goal.returns-in-Closed-clause-played
returns-in-Closed-clause-played c = let is = c.in-Closed.ensures.step in closed_plays c.args.board.now c.step.new.self c.args.caller is.1 is.2
