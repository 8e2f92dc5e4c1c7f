use Rattle.std.proofs.Common.{◌≡◌, map, take}
use Rattle.std.specs.Prelude.{All}
use Rattle.cf_types.specs.Pieces.{IsFrom, span_from}
use Rattle.cf_types.proofs.pieces.are_there.Given as goal

abbrev pub invariant-loop-place : goal.invariant-loop-place
invariant-loop-place l = record { from : All (IsFrom l.start) (take l.place l.tokens); places : take l.place l.spans ≡ map (span_from l.start) (take l.place l.tokens) }
