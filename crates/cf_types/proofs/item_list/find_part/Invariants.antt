use Rattle.std.proofs.Common.{◌+◌, ◌-◌, ◌≤◌, ◌<◌, length, take}
use Rattle.cf_types.specs.ItemParts.{items_in}
use Rattle.cf_types.proofs.item_list.find_part.Given as goal

abbrev pub invariant-loop-low : goal.invariant-loop-low
invariant-loop-low l = record { ordered : l.low ≤ l.high; within : l.high < length l.parts; begun : length (items_in (take l.low l.parts)) ≤ l.place; end : l.place < length (items_in (take (l.high + 1) l.parts)) }

abbrev pub decreases-loop-low : goal.decreases-loop-low
decreases-loop-low l = l.high - l.low
