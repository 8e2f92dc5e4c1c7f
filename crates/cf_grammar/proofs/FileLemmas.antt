-- The statement `file`.
use Rattle.std.proofs.Common.{◌≡◌, ◌∙◌, ℕ, ◌<◌, true, false, Some, List, ◌∷◌, length, refl, ap, subst, sym}
use Rattle.std.specs.Prelude.{codes, nat_le}
use Rattle.std.specs.List.{list_all}
use Rattle.std.proofs.lemmas.Bool.{lt-ltb}
use Rattle.std.proofs.lemmas.Slice.Eq.{bytes_eq-Decides}
use Rattle.cf_types.specs.declared.stmt.Piece.{Piece}
use Rattle.cf_types.specs.declared.stmt.Stmt.TheVariants as stmt
use Rattle.cf_types.specs.declared.stmt.Token.{Token}
use Rattle.cf_types.specs.declared.stmt.TokenKind.{TokenKind}
use Rattle.cf_types.specs.declared.stmt.TokenKind.TheVariants as kind
use Rattle.config_rules.specs.Form.{Form, form_of, is_left_out, is_word, table}
use Rattle.cf_grammar.proofs.GrammarLemmas.{form_is}

-- the token that a read past the end of a slice is said to give
abbrev pub first : Token
first = record { kind = kind.Chunk; start = 0; end = 0; line = 0 }

-- the word `file`
abbrev word : Piece
word = record { kind = kind.Chunk; text = codes "file" }

is_kept : (ps : List Piece) → false ≡ is_left_out (word ∷ ps)
unfolding is_left_out table
is_kept ps = refl

has_form : (ps : List Piece) → 0 < length ps → true ≡ list_all (λ q. nat_le (length q.text) 1023) ps → Some (stmt.Free (codes "file") ps) ≡ form_of true (word ∷ ps)
unfolding form_of table
has_form ps some short = rw (← short, lt-ltb 0 (length ps) some) refl

form_word : (ps : List Piece) → 0 < length ps → true ≡ list_all (λ q. nat_le (length q.text) 1023) ps → Form (word ∷ ps) (stmt.Free (codes "file") ps)
form_word ps some short = form_is (word ∷ ps) (stmt.Free (codes "file") ps) (is_kept ps) (has_form ps some short)

-- a chunk of these bytes
chunk_is : (p : Piece) (bytes : List ℕ) → true ≡ is_word bytes p → record { kind = kind.Chunk; text = bytes } ≡ p
chunk_is p bytes h = by_kind p.kind refl h
  where
    by_kind : (k : TokenKind) → k ≡ p.kind → true ≡ is_word bytes (record { kind = k; text = p.text }) → record { kind = kind.Chunk; text = bytes } ≡ p
    by_kind kind.Chunk e w =
        let same : p.text ≡ bytes = (bytes_eq-Decides p.text bytes).0 (sym w) in
        ap (λ (text : List ℕ). record { kind = kind.Chunk; text = text }) (sym same)
        ∙ ap (λ (k : TokenKind). record { kind = k; text = p.text }) e
    by_kind kind.Text e w = cc
    by_kind kind.Mark e w = cc
    by_kind kind.Stop e w = cc

-- it is a statement, whatever stands behind it, where something does and none of it is too long
pub form_file : (p : Piece) (ps : List Piece) → true ≡ is_word (codes "file") p → 0 < length ps → true ≡ list_all (λ q. nat_le (length q.text) 1023) ps → Form (p ∷ ps) (stmt.Free (codes "file") ps)
form_file p ps is some short = subst (λ (q : Piece). Form (q ∷ ps) (stmt.Free (codes "file") ps)) (chunk_is p (codes "file") is) (form_word ps some short)
