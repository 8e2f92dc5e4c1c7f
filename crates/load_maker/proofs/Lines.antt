-- One more spot of the generated machine.
use Rattle.std.proofs.Common.{◌≡◌, ℕ, ◌+◌, suc, List, [], ◌∷◌, ◌++◌, ap, sym, ◌∙◌, arith, append-nil}
use Rattle.std.specs.Prelude.{flat_map}
use Rattle.std.proofs.lemmas.Grind.{flat_map-append}
use Rattle.cf_types.specs.Lines.{ended, text_of}
use Rattle.cf_types.specs.Numbers.{below}
use Rattle.load_maker.specs.Generated.{machine_lines, machine_text, spot_lines}

text_more : (first more : List (List ℕ)) → text_of (first ++ more) ≡ text_of first ++ text_of more
text_more first more = flat_map-append ended first more

lines_more : (n : ℕ) → machine_lines (suc n) ≡ machine_lines n ++ spot_lines n
lines_more n =
    ap (λ (ls : List (List ℕ)). machine_lines 0 ++ ls) (flat_map-append spot_lines (below n) (n ∷ []) ∙ ap (λ (ls : List (List ℕ)). flat_map spot_lines (below n) ++ ls) (append-nil (spot_lines n)))

-- the machine of one more spot is the text so far and the lines of that spot
pub one_more_spot : (n : ℕ) (before after : List ℕ) → before ≡ machine_text n → after ≡ before ++ text_of (spot_lines n) → after ≡ machine_text (n + 1)
unfolding machine_text
one_more_spot n before after so_far more =
    let e : suc n ≡ n + 1 = omega arith in
    more ∙ ap (λ (text : List ℕ). text ++ text_of (spot_lines n)) so_far ∙ sym (text_more (machine_lines n) (spot_lines n)) ∙ sym (ap text_of (lines_more n))
    ∙ ap (λ k. text_of (machine_lines k)) e
