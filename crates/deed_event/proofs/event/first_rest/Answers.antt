use Rattle.std.proofs.Common.{sym}
use Rattle.run_world.specs.Recent.{called}
use Rattle.deed_event.proofs.RecentLaws.{rest_told}
use Rattle.deed_event.proofs.event.first_rest.Goals as goal

pub keep-requires : goal.keep-requires
keep-requires c =
    rw (c.rest_act.ensures, c.in_ok-name.ensures, c.resting.ensures, c.of.ensures) (sym (rest_told c.args.going.now.setup c.args.asleep (called c.args.device)))
