-- The callers before any event: one more for each script.
use Rattle.std.proofs.Common.{◌≡◌, ◌<◌, ◌≤◌, ◌+◌, ℕ, zero, suc, List, [], ◌∷◌, ◌++◌, map, take, length, refl, ◌∙◌, ap, arith, add-one}
use Rattle.std.proofs.lemmas.List.{map-append, take_all}
use Rattle.run_rules.specs.World.{Caller}
use Rattle.run_world.specs.declared.caller.CallerState.{CallerState}
use Rattle.run_world.specs.View.{callers_of}

-- one idle caller more for one script more
taken_more : {A B : Type 0} (c : B) (xs : List A) (i : ℕ) → i < length xs → map (λ x. c) (take (suc i) xs) ≡ map (λ x. c) (take i xs) ++ c ∷ []
taken_more c [] i lt = absurd (omega arith)
taken_more c (x ∷ xs) zero lt = refl
taken_more {A} {B} c (x ∷ xs) (suc i) lt = ap (λ (r : List B). c ∷ r) (taken_more c xs i (omega arith))

pub one_more : {A : Type 0} (callers : List CallerState) (new : CallerState) (first c : Caller) (scripts : List A) (i : ℕ) → i < length scripts
    → callers_of callers ≡ first ∷ map (λ x. c) (take i scripts) → callers_of (new ∷ []) ≡ c ∷ []
    → callers_of (callers ++ new ∷ []) ≡ first ∷ map (λ x. c) (take (i + 1) scripts)
one_more callers new first c scripts i lt so is =
    rw (map-append _ callers (new ∷ []), so, is, add-one, taken_more c scripts i lt) refl

pub all_scripts : {A : Type 0} (callers : List Caller) (first c : Caller) (scripts : List A) (i : ℕ) → length scripts ≤ i → callers ≡ first ∷ map (λ x. c) (take i scripts)
    → callers ≡ first ∷ map (λ x. c) scripts
all_scripts {A} callers first c scripts i le so = so ∙ ap (λ (xs : List A). first ∷ map (λ x. c) xs) (take_all i scripts le)
