use Rattle.std.proofs.Common.{◌≡◌, length, map, take}
use Rattle.std.specs.Vec.{vec_capacity}
use Rattle.cf_types.specs.Pieces.{span_from}
use Rattle.cf_types.proofs.pieces.spans_from.Given as goal

abbrev pub invariant-loop-token : goal.invariant-loop-token
invariant-loop-token l = record { spans : l.spans.items ≡ map (span_from l.start) (take l.token-index l.tokens); room : vec_capacity l.spans ≡ length l.tokens }
