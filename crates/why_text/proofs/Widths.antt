-- Texts that grow, and the longest of the texts so far.
use Rattle.std.proofs.Common.{◌≡◌, ◌<◌, ◌+◌, ◌∙◌, ℕ, max, List, [], ◌∷◌, ◌++◌, length, map, take, replicate, get_or, sym, ap, append_assoc, arith}
use Rattle.std.proofs.lemmas.List.{map_more, replicate-append-replicate}
use Rattle.why_text.specs.WhyText.{widest}

-- one blank more
pub blank_more : (first text new : List ℕ) (n : ℕ) → text ≡ first ++ replicate n 32 → new ≡ text ++ 32 ∷ [] → new ≡ first ++ replicate (n + 1) 32
blank_more first text new n e f =
    f ∙ ap (λ xs. xs ++ 32 ∷ []) e ∙ append_assoc first (replicate n 32) (32 ∷ []) ∙ ap (λ xs. first ++ xs) (replicate-append-replicate n 1 32)

widest_more : (texts : List (List ℕ)) (text : List ℕ) → widest (texts ++ text ∷ []) ≡ max (widest texts) (length text)
widest_more [] text = omega arith
widest_more (first ∷ texts) text = omega (arith, widest_more texts text)

-- the longest of the texts so far, one more
pub width_more : {A : Type 0} (f : A → List ℕ) (xs : List A) (i : ℕ) (d : A) (width new : ℕ) → i < length xs → new ≡ max width (length (f (get_or xs i d)))
    → width ≡ widest (map f (take i xs)) → new ≡ widest (map f (take (i + 1) xs))
width_more f xs i d width new lt e h =
    e ∙ ap (λ n. max n (length (f (get_or xs i d)))) h ∙ sym (ap widest (map_more f xs i d lt) ∙ widest_more (map f (take i xs)) (f (get_or xs i d)))
