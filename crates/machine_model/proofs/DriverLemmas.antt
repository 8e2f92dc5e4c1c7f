-- One policy of many.
use Rattle.std.proofs.Common.{◌≡◌, ℕ, zero, suc, ◌+◌, ◌<◌, ◌≤◌, length, get_or, map, true, false, cond, List, [], ◌∷◌, refl, ap, sym, ◌∙◌, arith}
use Rattle.std.specs.Prelude.{◌==◌, if◌then◌else◌, slice_set}
use Rattle.std.specs.List.{enumerate_from}
use Rattle.std.proofs.lemmas.Bool.{eq-eqb}
use Rattle.std.proofs.lemmas.Bool.Decides.{nat_tests}

apart : (k m : ℕ) → m < k → (k == m) ≡ false
apart k m h = grind (arith, nat_tests)

pub none_at : {X : Type 0} (f : X → X) (k m : ℕ) (xs : List X) → m < k → xs ≡ map (λ e. if e.0 == m then f e.1 else e.1) (enumerate_from k xs)
none_at f k m [] h = refl
none_at f k m (x ∷ xs) h =
    ap (λ b. cond b (f x) x ∷ xs) (sym (apart k m h)) ∙ ap (λ ys. (if k == m then f x else x) ∷ ys) (none_at f (k + 1) m xs (omega arith))

pub past_all : {X : Type 0} (f : X → X) (k m : ℕ) (xs : List X) → k + length xs ≤ m → xs ≡ map (λ e. if e.0 == m then f e.1 else e.1) (enumerate_from k xs)
past_all f k m [] h = refl
past_all f k m (x ∷ xs) h =
    let e : (k == m) ≡ false = apart_above k m (omega arith) in
    ap (λ b. cond b (f x) x ∷ xs) (sym e) ∙ ap (λ ys. (if k == m then f x else x) ∷ ys) (past_all f (k + 1) m xs (omega arith))
  where
    apart_above : (k m : ℕ) → k < m → (k == m) ≡ false
    apart_above k m h = grind (arith, nat_tests)

pub one_at : {X : Type 0} (f : X → X) (k m a : ℕ) (xs : List X) (x : X) → m ≡ k + a → a < length xs → x ≡ get_or xs a x → slice_set xs a (f x) ≡ map (λ e. if e.0 == m then f e.1 else e.1) (enumerate_from k xs)
one_at f k m a [] x e h is = absurd (omega arith)
one_at f k m zero (y ∷ ys) x e h is =
    let same : (k == m) ≡ true = eq-eqb k m (omega arith) in
    ap (λ z. f z ∷ ys) is ∙ ap (λ b. cond b (f y) y ∷ ys) (sym same) ∙ ap (λ zs. (if k == m then f y else y) ∷ zs) (none_at f (k + 1) m ys (omega arith))
one_at f k m (suc a) (y ∷ ys) x e h is =
    let other : (k == m) ≡ false = apart_more k m a e in
    ap (λ b. cond b (f y) y ∷ slice_set ys a (f x)) (sym other) ∙ ap (λ zs. (if k == m then f y else y) ∷ zs) (one_at f (k + 1) m a ys x (omega arith) (omega arith) is)
  where
    apart_more : (k m a : ℕ) → m ≡ k + suc a → (k == m) ≡ false
    apart_more k m a e = grind (arith, nat_tests)
