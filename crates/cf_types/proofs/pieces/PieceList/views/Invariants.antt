use Rattle.std.proofs.Common.{◌≡◌, length, map, take}
use Rattle.std.specs.Vec.{vec_capacity}
use Rattle.cf_types.specs.Pieces.{piece_at}
use Rattle.cf_types.proofs.pieces.PieceList.views.Given as goal

abbrev pub invariant-loop-span : goal.invariant-loop-span
invariant-loop-span l = record { views : l.views.items ≡ map (piece_at l.self-inside.text.items) (take l.span-index l.self-inside.spans.items); room : vec_capacity l.views ≡ length l.self-inside.spans.items }
