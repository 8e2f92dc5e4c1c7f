use Rattle.std.proofs.Common.{◌≤◌, length}
use Rattle.cf_types.specs.Offers.{nodes_of}
use Rattle.file_select.proofs.MarkLemmas.{Spreads}
use Rattle.file_select.proofs.marks.mark_needs.Given as goal

abbrev pub invariant-loop-next : goal.invariant-loop-next
invariant-loop-next l = record { within : l.next ≤ length l.attrs; spread : Spreads (nodes_of l.attrs) l.initial.marks l.marks l.next }

abbrev pub decreases-loop-next : goal.decreases-loop-next
decreases-loop-next l = l.next
