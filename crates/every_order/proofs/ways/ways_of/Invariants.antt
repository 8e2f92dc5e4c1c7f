use Rattle.std.proofs.Common.{◌≡◌, ◌++◌, length}
use Rattle.every_order.specs.Noted.{ways_in}
use Rattle.every_order.proofs.ways.ways_of.Given as goal

abbrev pub invariant-loop-text : goal.invariant-loop-text
invariant-loop-text l = ways_in l.initial.texts ≡ l.ways.items ++ ways_in l.texts

abbrev pub decreases-loop-text : goal.decreases-loop-text
decreases-loop-text l = length l.texts.entries
