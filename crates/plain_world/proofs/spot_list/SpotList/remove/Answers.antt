use Rattle.plain_world.proofs.MarkLaws.{marked_less}
use Rattle.plain_world.proofs.spot_list.SpotList.remove.Goals as goal

pub invariant_of-self : goal.invariant_of-self
invariant_of-self c =
    rw c.take_out.ensures
    (marked_less c.self.inside.spots.items c.self.inside.marks.items c.leave.new.marks.items c.args.spot c.self.invariant c.leave.ensures)
