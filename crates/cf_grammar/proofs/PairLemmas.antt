-- The pairs of an instance, one after the other.
use Rattle.std.proofs.Common.{◌≡◌, ℕ, ◌+◌, ◌<◌, Bool, true, false, Option, Some, None, List, [], ◌∷◌, ◌++◌, length, map, drop, get_or, ◌-◌, add_assoc, refl, ap, sym, ◌∙◌, arith, append_assoc, append-nil, codes, ℤ}
use Rattle.std.specs.Prelude.{option_map, option_and_then, ◌==◌}
use Rattle.std.proofs.lemmas.List.{drop_more, get_or-map, length-drop, length-map}
use Rattle.cf_types.specs.declared.stmt.Piece.{Piece}
use Rattle.cf_types.specs.declared.stmt.GivenLoc.{GivenLoc}
use Rattle.config_rules.specs.Form.{given, is_word, pair_of, pairs_of, value_of}

-- these pairs stand in front
abbrev pub with_pairs : List GivenLoc → Option (List GivenLoc × ℤ) → Option (List GivenLoc × ℤ)
with_pairs front rest = option_map (λ r. (front ++ r.0, r.1)) rest

pub with_no_pairs : (o : Option (List GivenLoc × ℤ)) → with_pairs [] o ≡ o
with_no_pairs None = refl
with_no_pairs (Some r) = refl

pairs_front : (front : List GivenLoc) (pair : GivenLoc) (o : Option (List GivenLoc × ℤ)) → with_pairs (front ++ pair ∷ []) o ≡ with_pairs front (option_map (λ r. (pair ∷ r.0, r.1)) o)
pairs_front front pair None = refl
pairs_front front pair (Some r) = ap (λ (xs : List GivenLoc). Some (xs, r.1)) (append_assoc front (pair ∷ []) r.0)

-- the two tokens from an index on
two_more : {X : Type 0} (f : X → Piece) (xs : List X) (i : ℕ) (d : X) → i + 1 < length xs
    → drop i (map f xs) ≡ f (get_or xs i d) ∷ f (get_or xs (i + 1) d) ∷ drop (i + 2) (map f xs)
two_more f xs i d h =
    let len : length (map f xs) ≡ length xs = length-map xs f in
    drop_more (map f xs) i (f d) (omega arith) ∙ ap (λ ps. get_or (map f xs) i (f d) ∷ ps) (drop_more (map f xs) (i + 1) (f d) (omega arith))
    ∙ rw (get_or-map f xs i d (f d) (omega arith), get_or-map f xs (i + 1) d (f d) h, add_assoc i 1 1) refl

-- one more pair
pub pairs_more : {X : Type 0} (f : X → Piece) (sized : Bool) (xs : List X) (i : ℕ) (d : X) (front : List GivenLoc) (pair : GivenLoc) → i + 1 < length xs → false ≡ is_word (codes "flags") (f (get_or xs i d))
    → Some pair ≡ pair_of sized (f (get_or xs i d)) (f (get_or xs (i + 1) d)) → with_pairs (front ++ pair ∷ []) (pairs_of sized (drop (i + 2) (map f xs))) ≡ with_pairs front (pairs_of sized (drop i (map f xs)))
pairs_more f sized xs i d front pair h other e = pairs_front front pair (pairs_of sized (drop (i + 2) (map f xs))) ∙ rw (two_more f xs i d h, ← other, ← e) refl

-- no pair
pub pairs_none : {X : Type 0} (f : X → Piece) (sized : Bool) (xs : List X) (i : ℕ) (d : X) (front : List GivenLoc) → i + 1 < length xs → false ≡ is_word (codes "flags") (f (get_or xs i d))
    → None ≡ pair_of sized (f (get_or xs i d)) (f (get_or xs (i + 1) d)) → None ≡ with_pairs front (pairs_of sized (drop i (map f xs)))
pairs_none f sized xs i d front h other e = rw (two_more f xs i d h, ← other, ← e) refl

-- the flags, which end them
pub pairs_flags : {X : Type 0} (f : X → Piece) (sized : Bool) (xs : List X) (i : ℕ) (d : X) (front : List GivenLoc) (flags : Option ℤ) → i + 1 < length xs → true ≡ is_word (codes "flags") (f (get_or xs i d))
    → flags ≡ option_and_then (λ value. given (length xs - (i + 2) == 0) value) (value_of sized (f (get_or xs (i + 1) d)))
    → option_map (λ f. (front, f)) flags ≡ with_pairs front (pairs_of sized (drop i (map f xs)))
pairs_flags f sized xs i d front flags h is e =
    let len : length (drop (i + 2) (map f xs)) ≡ length xs - (i + 2) = omega (arith, length-drop (i + 2) (map f xs), length-map xs f) in
    rw (two_more f xs i d h, ← is, len, e) (by_value (value_of sized (f (get_or xs (i + 1) d))) (length xs - (i + 2) == 0))
  where
    by_value : (o : Option ℤ) (last : Bool) → option_map (λ f. (front, f)) (option_and_then (λ value. given last value) o) ≡ with_pairs front (option_and_then (λ value. given last ([], value)) o)
    by_value None last = refl
    by_value (Some value) true = ap (λ (xs : List GivenLoc). Some (xs, value)) (sym (append-nil front))
    by_value (Some value) false = refl

-- one token is left
pub pairs_half : (sized : Bool) (ps : List Piece) (front : List GivenLoc) → length ps ≡ 1 → None ≡ with_pairs front (pairs_of sized ps)
pairs_half sized [] front h = absurd (omega arith)
pairs_half sized (p ∷ []) front h = refl
pairs_half sized (p ∷ q ∷ ps) front h = absurd (omega arith)
