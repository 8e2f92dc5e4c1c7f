use Rattle.std.proofs.Common.{◌∙◌, List, ap, length, map, sym, subst, ℕ}
use Rattle.std.specs.Prelude.{All}
use Rattle.cf_types.specs.Pieces.{IsWithin, piece_at}
use Rattle.cf_types.specs.declared.pieces.PieceSpan.{PieceSpan}
use Rattle.cf_types.proofs.PieceLemmas.{spans_in_part, tokens_in_part}
use Rattle.cf_types.proofs.pieces.PieceList.of_tokens.Goals as goal

pub invariant_of-result : goal.invariant_of-result
invariant_of-result c =
    let spans = spans_in_part (length c.part_of-start.result.1.now) c.part_of-start.result.0 c.args.tokens.now c.part_of-start.ensures.between in
    subst (λ (n : ℕ). All (IsWithin n) c.in_ok-spans.spans.items) (ap length (sym c.in_ok-copy.ensures.items))
    (subst (λ (xs : List PieceSpan). All (IsWithin (length c.part_of-start.result.1.now)) xs) (sym c.in_ok-spans.ensures) spans)

pub returns : goal.returns
returns c =
    ap (λ (bytes : List ℕ). map (piece_at bytes) c.in_ok-spans.spans.items) c.in_ok-copy.ensures.items
    ∙ ap (map (piece_at c.part_of-start.result.1.now)) c.in_ok-spans.ensures
    ∙ tokens_in_part c.args.text.now c.part_of-start.result.1.now c.part_of-start.result.0 c.args.tokens.now c.part_of-start.ensures.between c.part_of-start.ensures.part
