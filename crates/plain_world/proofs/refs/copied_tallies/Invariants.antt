use Rattle.std.proofs.Common.{◌≡◌, take}
use Rattle.plain_world.proofs.refs.copied_tallies.Given as goal

abbrev pub invariant-loop-tally : goal.invariant-loop-tally
invariant-loop-tally l = l.copy.items ≡ take l.tally-index l.tallies
