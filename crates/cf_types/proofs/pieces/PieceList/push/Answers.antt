use Rattle.std.proofs.Common.{◌≡◌, ◌∙◌, ◌++◌, ◌∷◌, [], List, ap, rules}
use Rattle.cf_types.specs.declared.stmt.Piece.{Piece}
use Rattle.cf_types.proofs.PieceLemmas.{pieces_pushed}
use Rattle.cf_types.proofs.pieces.PieceList.push.Goals as goal

pub returns-clause-ok : goal.returns-clause-ok
returns-clause-ok c =
    let spans : c.push_reserved.new.self.items ≡ c.self.inside.spans.items ++ c.in_ok-span.span ∷ [] = search rules in
    pieces_pushed c.self.inside.text.items c.add_bytes.new.text.items c.args.bytes.now c.args.kind c.self.inside.spans.items c.push_reserved.new.self.items c.in_ok-span.span
    c.self.invariant c.in_ok-span.ensures.ok c.in_ok-span.ensures.span spans
    ∙ ap (λ (ps : List Piece). ps ++ record { kind = c.args.kind; text = c.args.bytes.now } ∷ []) c.self.view_is
