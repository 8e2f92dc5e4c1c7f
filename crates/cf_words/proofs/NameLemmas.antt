-- Names that are read.
use Rattle.std.proofs.Common.{◌≡◌, ℕ, Bool, true, false, cond, List, [], ◌∷◌, Option, Some, None, refl}
use Rattle.std.specs.Prelude.{codes, option_and_then, option_map}
use Rattle.cf_types.specs.declared.stmt.Piece.{Piece}
use Rattle.cf_types.specs.declared.stmt.TokenKind.{TokenKind}
use Rattle.cf_types.specs.declared.stmt.TokenKind.TheVariants as kind
use Rattle.config_rules.specs.Form.{alone, each, is_mark, name_of, names_of}

-- the list of what one may be
one_of : (o : Option (List ℕ)) → option_and_then (λ name. option_map (λ names. name ∷ names) (Some [])) o ≡ option_map (λ name. name ∷ []) o
one_of None = refl
one_of (Some name) = refl

abbrev mark_of : List ℕ → Piece
mark_of text = record { kind = kind.Mark; text = text }

-- a mark is no name, be it a comma between two parts or not
mark_names : (text : List ℕ) (b : Bool) → each (alone name_of) (cond b ([] ∷ [] ∷ []) ((mark_of text ∷ []) ∷ [])) ≡ None
mark_names text true = refl
mark_names text false = refl

-- one word is a list of one name where it is a name
pub one_name : (p : Piece) → names_of (p ∷ []) ≡ option_map (λ name. name ∷ []) (name_of p)
one_name p = by_kind p.kind p.text
  where
    by_kind : (k : TokenKind) (text : List ℕ) → names_of (record { kind = k; text = text } ∷ []) ≡ option_map (λ name. name ∷ []) (name_of (record { kind = k; text = text }))
    by_kind kind.Chunk text = one_of (name_of (record { kind = kind.Chunk; text = text }))
    by_kind kind.Text text = refl
    by_kind kind.Stop text = refl
    by_kind kind.Mark text = mark_names text (is_mark (codes ",") (mark_of text))
