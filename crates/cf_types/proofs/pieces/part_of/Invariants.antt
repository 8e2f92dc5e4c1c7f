use Rattle.std.proofs.Common.{◌≤◌, length, take}
use Rattle.cf_types.specs.Pieces.{AreBetween}
use Rattle.cf_types.proofs.pieces.part_of.Given as goal

abbrev pub invariant-loop-token : goal.invariant-loop-token
invariant-loop-token l = record { between : AreBetween l.start l.end (take l.token-index l.tokens); ordered : l.start ≤ l.end; within : l.end ≤ length l.text }
