-- A word that begins as none of the left-out ones is none of them.
use Rattle.std.proofs.Common.{◌≡◌, ℕ, ◌&&◌, ◌||◌, ◌==◌, Bool, true, false, List, [], ◌∷◌, refl, ap, ◌∙◌}
use Rattle.std.specs.Prelude.{bytes_eq, codes, slice_index}
use Rattle.std.proofs.Math.Bool.{and-false}
use Rattle.cf_types.specs.declared.stmt.Piece.{Piece}
use Rattle.config_rules.specs.Form.{is_chunk}
use Rattle.cf_grammar.specs.LeftOut.{is_left_out_word}

is_not : (chunk : Bool) (text : List ℕ) (first : ℕ) (rest : List ℕ) → (slice_index text 0 == first) ≡ false → (chunk && bytes_eq text (first ∷ rest)) ≡ false
is_not chunk [] first rest h = and-false chunk
is_not chunk (c ∷ cs) first rest h = ap (λ b. chunk && (b && bytes_eq cs rest)) h ∙ and-false chunk

neither : (a b : Bool) → a ≡ false → false ≡ b → false ≡ (a || b)
neither true b h rest = absurd (cc)
neither false b h rest = rest

pub no_left_out : (p : Piece) → (slice_index p.text 0 == 98) ≡ false → (slice_index p.text 0 == 105) ≡ false → (slice_index p.text 0 == 111) ≡ false
    → (slice_index p.text 0 == 112) ≡ false → (slice_index p.text 0 == 115) ≡ false → false ≡ is_left_out_word p
no_left_out p b i o k s =
    neither _ _ (is_not (is_chunk p) p.text 112 (codes "ackage") k)
    (neither _ _ (is_not (is_chunk p) p.text 111 (codes "bject") o)
    (neither _ _ (is_not (is_chunk p) p.text 105 (codes "oconf") i)
    (neither _ _ (is_not (is_chunk p) p.text 115 (codes "elect") s)
    (neither _ _ (is_not (is_chunk p) p.text 112 (codes "seudo-root") k)
    (neither _ _ (is_not (is_chunk p) p.text 98 (codes "uildprefix") b) refl)))))
