use Rattle.next_deed.proofs.ChoiceLaws.{serials_rise, sleeper_there}
use Rattle.next_deed.proofs.power.plan_suspend.Goals as goal

pub plan_sleep-requires : goal.plan_sleep-requires
plan_sleep-requires c =
    record {
      there = sleeper_there c.args.going.now.live c.args.target c.in-Some.device (serials_rise c.args.going.now c.stands.ensures.goes_on.kept) c.in-Some.ensures;
      next = c.in-Some.ensures;
    }
