use Rattle.dev_board.proofs.OpenSlots.{slots_opening}
use Rattle.dev_board.proofs.Started.{started_is}
use Rattle.dev_board.proofs.booted.boot_with_slots.Goals as goal

pub run_boot-requires-clause-agree : goal.run_boot-requires-clause-agree
run_boot-requires-clause-agree c =
    let b = c.args.board.now in
    slots_opening b.world b.world.setup c.in_ok-slots.slots c.spots.result c.requires.world c.spots.ensures c.in_ok-slots.ensures

pub run_boot-requires-clause-goes_on : goal.run_boot-requires-clause-goes_on
run_boot-requires-clause-goes_on c = c.requires.stopped

pub returns : goal.returns
returns c =
    started_is c.args.board.now c.run_boot.new.board c.run_boot.new.slots c.requires c.in_ok-run_boot.ensures.booted c.stands.ensures.reliable
    c.run_boot.ensures.agree
