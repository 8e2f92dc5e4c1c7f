use Rattle.std.proofs.Common.{◌-◌, length, map}
use Rattle.config_rules.specs.Select.{carries_at, is_at_root_at}
use Rattle.config_rules.specs.Meaning.{inst_of}
use Rattle.cf_select.specs.Carried.{offered_in}
use Rattle.cf_select.specs.Wanted.{wants_at}
use Rattle.cf_select.proofs.RootedLemmas.{Spreads}
use Rattle.cf_select.proofs.marks.spread.Given as goal

abbrev pub invariant-loop-next : goal.invariant-loop-next
invariant-loop-next l = Spreads (is_at_root_at (map inst_of l.instances)) (carries_at (offered_in l.graph) (map inst_of l.instances)) (wants_at (map inst_of l.instances)) (length l.instances) l.reached.waiting.lists l.reached.marks.items l.reached.order.items l.next

abbrev pub decreases-loop-next : goal.decreases-loop-next
decreases-loop-next l = length l.instances - l.next
