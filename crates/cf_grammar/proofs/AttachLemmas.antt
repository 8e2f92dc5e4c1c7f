-- An attachment's places and name.
use Rattle.std.proofs.Common.{◌≡◌, ℕ, ◌-◌, ◌<◌, ◌≤◌, ◌&&◌, Bool, true, false, not, Option, Some, None, List, [], ◌∷◌, length, get_or, map, take, drop, refl, sym, ap, ◌∙◌, arith, codes, inl, inr}
use Rattle.std.specs.Prelude.{option_map, option_and_then, nat_lt}
use Rattle.std.specs.List.{list_any}
use Rattle.std.proofs.lemmas.Bool.{cases_Bool, lt-ltb, ltb-true, true≢false}
use Rattle.std.proofs.lemmas.List.{get_or-map, length-map}
use Rattle.cf_types.specs.declared.stmt.Piece.{Piece}
use Rattle.cf_types.specs.declared.stmt.Stmt.{Stmt}
use Rattle.cf_types.specs.declared.stmt.Stmt.TheVariants as stmt
use Rattle.config_rules.specs.Form.{alone, attach_stmt, attached, is_mark, is_word, name_of, names_of}
use Rattle.cf_words.proofs.ListLemmas.{list_any_one}
use Rattle.cf_grammar.specs.Places.{by_end, is_before_last}
use Rattle.cf_grammar.proofs.PlacesLemmas.{by_end_is, called, plain}

-- an attachment's form has more than one token
pub attach_short : (ps : List Piece) → length ps < 2 → None ≡ attach_stmt ps
attach_short [] h = refl
attach_short (p ∷ []) h = refl
attach_short (p ∷ q ∷ ps) h = absurd (omega arith)

-- the word before the last, and the token before that
pub before_last : {X : Type 0} (f : X → Piece) (word : List ℕ) (xs : List X) (d : X) (here comma : Bool) → 3 ≤ length xs
    → here ≡ is_word word (f (get_or xs (length xs - 2) d)) → (here ≡ true → comma ≡ is_mark (codes ",") (f (get_or xs (length xs - 3) d)))
    → (here && not comma) ≡ is_before_last word (map f xs)
before_last f word xs d here comma h e k =
    let len : length (map f xs) ≡ length xs = length-map xs f in
    let long : nat_lt 2 (length (map f xs)) ≡ true = lt-ltb 2 (length (map f xs)) (omega arith) in
    let second : list_any (is_word word) (take 1 (drop (length (map f xs) - 2) (map f xs))) ≡ is_word word (f (get_or xs (length xs - 2) d)) =
    list_any_one (is_word word) (map f xs) (length (map f xs) - 2) (f d) (omega arith) ∙ ap (λ n. is_word word (get_or (map f xs) (n - 2) (f d))) len ∙ ap (is_word word) (get_or-map f xs (length xs - 2) d (f d) (omega arith)) in
    let third : list_any (is_mark (codes ",")) (take 1 (drop (length (map f xs) - 3) (map f xs))) ≡ is_mark (codes ",") (f (get_or xs (length xs - 3) d)) =
    list_any_one (is_mark (codes ",")) (map f xs) (length (map f xs) - 3) (f d) (omega arith) ∙ ap (λ n. is_mark (codes ",") (get_or (map f xs) (n - 3) (f d))) len ∙ ap (is_mark (codes ",")) (get_or-map f xs (length xs - 3) d (f d) (omega arith)) in
    rw (long, second, third, ← e) (by_word here k)
  where
    by_word : (b : Bool) → (b ≡ true → comma ≡ is_mark (codes ",") (f (get_or xs (length xs - 3) d))) → (b && not comma) ≡ (b && not (is_mark (codes ",") (f (get_or xs (length xs - 3) d))))
    by_word true k = ap not (k refl)
    by_word false k = refl

pub long_enough : (word : List ℕ) (ps : List Piece) → true ≡ is_before_last word ps → 2 < length ps
long_enough word ps h =
    elim (cases_Bool (nat_lt 2 (length ps))) [
      | inl e ↦ ltb-true 2 (length ps) e
      | inr e ↦ let short : is_before_last word ps ≡ false = rw e refl in absurd (true≢false (h ∙ short))
    ]

-- what is made of places and a name
abbrev make : List ℕ → List (List ℕ) → Option (List (List ℕ) × Option (List ℕ)) → Option Stmt
make device needs o = option_map (λ a. stmt.Attach device a.0 a.1 needs) o

made_named : (device : List ℕ) (needs : List (List ℕ)) (places : Option (List (List ℕ))) (name : Option (List ℕ))
    → option_and_then (λ places. option_map (λ name. stmt.Attach device places (Some name) needs) name) places ≡ make device needs (option_and_then (called name) places)
made_named device needs None name = refl
made_named device needs (Some places) None = refl
made_named device needs (Some places) (Some name) = refl

made_plain : (device : List ℕ) (needs : List (List ℕ)) (places : Option (List (List ℕ)))
    → option_map (λ places. stmt.Attach device places None needs) places ≡ make device needs (option_map plain places)
made_plain device needs None = refl
made_plain device needs (Some places) = refl

-- places that end with a name
pub attached_named : (device : List ℕ) (needs : List (List ℕ)) (ps : List Piece) (places : Option (List (List ℕ))) (name : Option (List ℕ)) → true ≡ is_before_last (codes "with") ps
    → places ≡ names_of (take (length ps - 2) ps) → name ≡ alone name_of (drop (length ps - 1) ps)
    → option_and_then (λ places. option_map (λ name. stmt.Attach device places (Some name) needs) name) places ≡ attached device needs ps
attached_named device needs ps places name named e k =
    let ends : by_end ps ≡ option_and_then (called name) places = rw (e, k, ← named) refl in
    made_named device needs places name ∙ ap (make device needs) (sym ends ∙ by_end_is ps)

-- places alone
pub attached_plain : (device : List ℕ) (needs : List (List ℕ)) (ps : List Piece) (places : Option (List (List ℕ))) → false ≡ is_before_last (codes "with") ps → places ≡ names_of ps
    → option_map (λ places. stmt.Attach device places None needs) places ≡ attached device needs ps
attached_plain device needs ps places alone e =
    let ends : by_end ps ≡ option_map plain places = rw (e, ← alone) refl in
    made_plain device needs places ∙ ap (make device needs) (sym ends ∙ by_end_is ps)
