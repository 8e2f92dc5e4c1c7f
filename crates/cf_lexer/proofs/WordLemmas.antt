-- Chunks that are no condition words.
use Rattle.std.proofs.Common.{◌≡◌, ℕ, ◌<◌, ◌≤◌, Bool, true, false, List, ◌∷◌, [], length, take, get_or, ap, sym, ◌∙◌, arith, refl}
use Rattle.std.specs.Prelude.{◌||◌, bytes_eq}
use Rattle.std.specs.List.{prefix_len}
use Rattle.std.proofs.lemmas.Bool.{false_from_ne_true}
use Rattle.std.proofs.lemmas.List.{get_or-take, length-take}
use Rattle.std.proofs.lemmas.Slice.Eq.{bytes_eq-Decides}
use Rattle.config_rules.specs.Cut.{is_chunk_byte}
use Rattle.cf_lexer.specs.Fourth.{is_fourth}
use Rattle.cf_lexer.specs.Rest.{names_condition}

-- the front of a text is not a word with another fourth byte
differs : (text w : List ℕ) (n : ℕ) → 4 ≤ length w → (get_or text 3 0 ≡ get_or w 3 0 → ⊥) → bytes_eq (take n text) w ≡ false
differs text w n long other = false_from_ne_true (bytes_eq (take n text) w) (λ e.
    let same : take n text ≡ w = (bytes_eq-Decides (take n text) w).0 e in
    let more : 3 < n = omega (arith, length-take n text, ap (λ (xs : List ℕ). length xs) same, long) in
    other (sym (get_or-take n text 3 0 more) ∙ ap (λ (xs : List ℕ). get_or xs 3 0) same))

-- a byte that is no fourth one is none of them
apart : (byte k : ℕ) → is_fourth byte ≡ false → is_fourth k ≡ true → byte ≡ k → ⊥
apart byte k no_one one e = absurd (cc)

pub other_fourth : (text : List ℕ) → is_fourth (get_or text 3 0) ≡ false → names_condition text ≡ false
other_fourth text no_one =
    let n : ℕ = prefix_len is_chunk_byte text in
    let d1 = differs text (105 ∷ 102 ∷ 100 ∷ 101 ∷ 102 ∷ []) n (omega arith) (apart (get_or text 3 0) 101 no_one refl) in
    let d2 = differs text (105 ∷ 102 ∷ 110 ∷ 100 ∷ 101 ∷ 102 ∷ []) n (omega arith) (apart (get_or text 3 0) 100 no_one refl) in
    let d3 = differs text (101 ∷ 108 ∷ 105 ∷ 102 ∷ 100 ∷ 101 ∷ 102 ∷ []) n (omega arith) (apart (get_or text 3 0) 102 no_one refl) in
    let d4 = differs text (101 ∷ 108 ∷ 105 ∷ 102 ∷ 110 ∷ 100 ∷ 101 ∷ 102 ∷ []) n (omega arith) (apart (get_or text 3 0) 102 no_one refl) in
    let d5 = differs text (101 ∷ 108 ∷ 115 ∷ 101 ∷ []) n (omega arith) (apart (get_or text 3 0) 101 no_one refl) in
    let d6 = differs text (101 ∷ 110 ∷ 100 ∷ 105 ∷ 102 ∷ []) n (omega arith) (apart (get_or text 3 0) 105 no_one refl) in
    by_six _ _ _ _ _ _ d1 d2 d3 d4 d5 d6
  where
    by_six : (a b c d e f : Bool) → a ≡ false → b ≡ false → c ≡ false → d ≡ false → e ≡ false → f ≡ false → (a || (b || (c || (d || (e || (f || false)))))) ≡ false
    by_six false false false false false false h1 h2 h3 h4 h5 h6 = refl
    by_six true _ _ _ _ _ h1 h2 h3 h4 h5 h6 = absurd (cc)
    by_six false true _ _ _ _ h1 h2 h3 h4 h5 h6 = absurd (cc)
    by_six false false true _ _ _ h1 h2 h3 h4 h5 h6 = absurd (cc)
    by_six false false false true _ _ h1 h2 h3 h4 h5 h6 = absurd (cc)
    by_six false false false false true _ h1 h2 h3 h4 h5 h6 = absurd (cc)
    by_six false false false false false true h1 h2 h3 h4 h5 h6 = absurd (cc)
