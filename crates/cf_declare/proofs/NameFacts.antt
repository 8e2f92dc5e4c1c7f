-- Names that differ.
use Rattle.std.proofs.Common.{◌≡◌, ◌≢◌, ℕ, false, ◌||◌, List, [], ◌∷◌, ◌++◌, get_or, map, refl, ap, sym, ◌∙◌, arith}
use Rattle.std.specs.Prelude.{bytes_eq}
use Rattle.std.specs.List.{list_any}
use Rattle.std.proofs.lemmas.Bool.{both_ways, or_parts}
use Rattle.std.proofs.lemmas.List.Elements.{All-weaker}
use Rattle.std.proofs.lemmas.List.Kept.{AllPairs-cons}
use Rattle.std.proofs.lemmas.List.Quantifiers.{all_pairs_push}
use Rattle.std.proofs.lemmas.Slice.Eq.{bytes_eq-Decides}
use Rattle.config_rules.specs.Fault.{repeats}
use Rattle.cf_declare.specs.Sound.{NamesDiffer}
use Rattle.cf_declare.proofs.ListFacts.{all_fail}

-- names that are not the same bytes differ
differs : (a b : List ℕ) → bytes_eq a b ≡ false → a ≢ b
differs a b h = λ e. both_ways (bytes_eq a b) h ((bytes_eq-Decides a b).1 e)

-- one more whose name none has
pub differ_push : {X : Type 0} (name_of : X → List ℕ) (xs : List X) (y : X) → NamesDiffer name_of xs → list_any (λ x. bytes_eq (name_of x) (name_of y)) xs ≡ false → NamesDiffer name_of (xs ++ y ∷ [])
differ_push name_of xs y differ h =
    all_pairs_push (λ a b. name_of a ≢ name_of b) xs y differ
    (λ k d q. differs (name_of (get_or xs k d)) (name_of y) (all_fail (λ x. bytes_eq (name_of x) (name_of y)) xs h k d q))

-- a name among the names of elements
any_name : {X : Type 0} (name_of : X → List ℕ) (name : List ℕ) (xs : List X) → list_any (λ n. bytes_eq n name) (map name_of xs) ≡ list_any (λ x. bytes_eq (name_of x) name) xs
any_name name_of name [] = refl
any_name name_of name (x ∷ xs) = ap (λ b. bytes_eq (name_of x) name || b) (any_name name_of name xs)

-- a list of names without repeats
pub differ_all : {X : Type 0} (name_of : X → List ℕ) (xs : List X) → repeats (map name_of xs) ≡ false → NamesDiffer name_of xs
differ_all name_of [] h = λ i j d p q. absurd (omega arith)
differ_all name_of (x ∷ xs) h =
    let parts = or_parts (list_any (λ n. bytes_eq n (name_of x)) (map name_of xs)) (repeats (map name_of xs)) h in
    AllPairs-cons (λ a b. name_of a ≢ name_of b) x xs
    (All-weaker (λ y. bytes_eq (name_of y) (name_of x) ≡ false) (λ y. name_of x ≢ name_of y) (λ y e. λ same. differs (name_of y) (name_of x) e (sym same)) xs
    (all_fail (λ y. bytes_eq (name_of y) (name_of x)) xs (sym (any_name name_of (name_of x) xs) ∙ parts.0)))
    (differ_all name_of xs parts.1)
