use Rattle.std.proofs.Common.{arith}
use Rattle.run_sound.proofs.Arrivals.{due_inside}
use Rattle.plain_search.proofs.TurnLaws.{due_hangs}
use Rattle.plain_search.proofs.turns.next_scan.Goals as goal

pub after_turn-requires : goal.after_turn-requires
after_turn-requires c =
    omega (
      arith,
      c.stands.ensures.machine.few_spots,
      due_inside c.args.seeker.now.rules.now c.args.plain.now.live.devices c.args.plain.now.absent c.args.plain.now.hidden c.args.serial c.args.only c.args.filter.now c.args.from c.in-Some.turn c.in-Some.ensures,
    )

pub arrival-requires-clause-at : goal.arrival-requires-clause-at
arrival-requires-clause-at c =
    due_hangs c.args.seeker.now.rules.now c.args.plain.now.live.devices c.args.plain.now.absent c.args.plain.now.hidden c.args.serial c.args.only c.args.filter.now c.args.from c.in-Some.turn c.in-Some.ensures
