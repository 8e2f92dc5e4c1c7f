use Rattle.std.proofs.Common.{◌≤◌, length, subst, sym}
use Rattle.std.specs.List.{AllByRecursion}
use Rattle.dev_board.specs.Shown.{Shown}
use Rattle.dev_board.proofs.turns.run_turns.Goals as goal

pub take_turns-requires-clause-callers : goal.take_turns-requires-clause-callers
take_turns-requires-clause-callers c =
    subst (λ (b : Shown). AllByRecursion (λ k. k ≤ length b.world.setup.scripts) c.args.order.now) (sym c.make_room.ensures) c.requires.callers
