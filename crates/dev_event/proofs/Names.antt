-- Names between blanks, the first ones read already.
use Rattle.std.proofs.Common.{◌≡◌, ◌<◌, ◌+◌, ℕ, zero, suc, length, take, get_or, arith, List, [], ◌∷◌, ◌++◌, Option, Some, None, option_map, refl, sym, ap, ◌∙◌, append_assoc}
use Rattle.std.specs.Prelude.{option_and_then}
use Rattle.std.specs.List.{AllByRecursion}
use Rattle.run_rules.specs.declared.event.DepthName.{DepthName}
use Rattle.dev_event.specs.Reading.{all_deep, all_named, name_in, number_in}

-- what the words behind give goes behind what is there
abbrev pub onto : {A : Type 0} → List A → Option (List A) → Option (List A)
onto xs more = option_map (λ ys. xs ++ ys) more

onto_more : {A : Type 0} (xs : List A) (x : A) (more : Option (List A)) → onto (xs ++ x ∷ []) more ≡ onto xs (option_map (λ ys. x ∷ ys) more)
onto_more xs x None = refl
onto_more xs x (Some ys) = ap Some (append_assoc xs (x ∷ []) ys)

-- ---- names

pub stops : (names : List (List ℕ)) (words : List (List ℕ)) (piece : List ℕ) (rest : List (List ℕ)) (o : Option (List (List ℕ)))
    → words ≡ piece ∷ rest → name_in piece ≡ None → onto names (all_named words) ≡ o → None ≡ o
stops names words piece rest o is none so_far =
    ap (λ n. onto names (option_and_then (λ name. option_map (λ more. name ∷ more) (all_named rest)) n)) (sym none)
    ∙ ap (λ ws. onto names (all_named ws)) (sym is) ∙ so_far

pub goes_on : (names : List (List ℕ)) (words : List (List ℕ)) (piece name : List ℕ) (rest : List (List ℕ)) (o : Option (List (List ℕ)))
    → words ≡ piece ∷ rest → name_in piece ≡ Some name → onto names (all_named words) ≡ o → onto (names ++ name ∷ []) (all_named rest) ≡ o
goes_on names words piece name rest o is some so_far =
    onto_more names name (all_named rest)
    ∙ ap (λ n. onto names (option_and_then (λ name. option_map (λ more. name ∷ more) (all_named rest)) n)) (sym some)
    ∙ ap (λ ws. onto names (all_named ws)) (sym is) ∙ so_far

-- ---- names behind their depths

pub deep_stops : (names : List DepthName) (words : List (List ℕ)) (depth piece : List ℕ) (rest : List (List ℕ)) (o : Option (List DepthName))
    → words ≡ depth ∷ piece ∷ rest → name_in piece ≡ None → onto names (all_deep words) ≡ o → None ≡ o
deep_stops names words depth piece rest o is none so_far =
    ap (λ n. onto names (option_and_then (λ name. option_map (λ more. record { depth = number_in depth; name = name } ∷ more) (all_deep rest)) n)) (sym none)
    ∙ ap (λ ws. onto names (all_deep ws)) (sym is) ∙ so_far

pub deep_goes_on : (names : List DepthName) (words : List (List ℕ)) (depth piece name : List ℕ) (rest : List (List ℕ)) (o : Option (List DepthName))
    → words ≡ depth ∷ piece ∷ rest → name_in piece ≡ Some name → onto names (all_deep words) ≡ o
    → onto (names ++ record { depth = number_in depth; name = name } ∷ []) (all_deep rest) ≡ o
deep_goes_on names words depth piece name rest o is some so_far =
    onto_more names (record { depth = number_in depth; name = name }) (all_deep rest)
    ∙ ap (λ n. onto names (option_and_then (λ name. option_map (λ more. record { depth = number_in depth; name = name } ∷ more) (all_deep rest)) n)) (sym some)
    ∙ ap (λ ws. onto names (all_deep ws)) (sym is) ∙ so_far

pub deep_odd : (names : List DepthName) (words : List (List ℕ)) (piece : List ℕ) (o : Option (List DepthName)) → words ≡ piece ∷ [] → onto names (all_deep words) ≡ o → None ≡ o
deep_odd names words piece o is so_far = ap (λ ws. onto names (all_deep ws)) (sym is) ∙ so_far

-- ---- what holds of the first ones, and of one more

pub one_more : {A : Type 0} (P : A → Type 0) (xs : List A) (i : ℕ) (d : A) → i < length xs → AllByRecursion P (take i xs) → P (get_or xs i d) → AllByRecursion P (take (i + 1) xs)
one_more P [] i d lt all here = absurd (omega arith)
one_more P (x ∷ xs) zero d lt all here = (here, tt)
one_more P (x ∷ xs) (suc i) d lt all here =
    let next : suc i + 1 ≡ suc (i + 1) = omega arith in rw next (all.0, one_more P xs i d (omega arith) all.1 here)
