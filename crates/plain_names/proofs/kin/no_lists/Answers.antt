use Rattle.plain_names.proofs.KinLaws.{empty_more}
use Rattle.plain_names.proofs.kin.no_lists.Goals as goal

pub loop-list-preserved : goal.loop-list-preserved
loop-list-preserved c = empty_more c.loop-list._list c.loop-list.lists.items c.push.new.self.items _ c.in_ok-push.ensures.items c.new.ensures.items c.loop-list.invariant
