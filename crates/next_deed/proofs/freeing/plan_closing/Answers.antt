use Rattle.next_deed.proofs.ChoiceLaws.{closing_drops, closing_ends, serials_rise}
use Rattle.next_deed.proofs.freeing.plan_closing.Goals as goal

pub returns-in-Some : goal.returns-in-Some
returns-in-Some c =
    let kept = c.stands.ensures.goes_on.kept in
    closing_drops c.args.going.now c.args.caller c.in-Some.serial (serials_rise c.args.going.now kept) kept.sound.refs.live_ones (rw c.refs.ensures.refs at c.in-Some.ensures)

pub returns-in-None : goal.returns-in-None
returns-in-None c =
    let kept = c.stands.ensures.goes_on.kept in
    closing_ends c.args.going.now c.args.caller (serials_rise c.args.going.now kept) kept.sound.refs.live_ones (rw c.refs.ensures.refs at c.in-None.ensures)
