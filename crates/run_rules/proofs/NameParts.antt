-- A driver's name and a unit are known from the name that they print, where the driver's name does not end in a digit.
use Rattle.std.proofs.Common.{◌≡◌, ℕ, ◌<◌, ◌≤◌, ◌^◌, ◌%◌, List, [], ◌∷◌, ◌++◌, refl, sym, subst, arith, decimal}
use Rattle.std.specs.List.{AllByRecursion}
use Rattle.std.proofs.lemmas.Fmt.{decimal_injective, decimal_by_steps}
use Rattle.run_rules.proofs.Devices.{all_snoc}

abbrev pub IsDigit : ℕ → Type 0
IsDigit b = (48 ≤ b) × (b < 58)

-- the text does not end in a digit
abbrev pub EndsPlain : List ℕ → Type 0
EndsPlain [] = Unit {0}
EndsPlain (b ∷ []) = IsDigit b → ⊥
EndsPlain (b ∷ c ∷ bs) = EndsPlain (c ∷ bs)

abbrev pub AllDigits : List ℕ → Type 0
AllDigits ds = AllByRecursion IsDigit ds

pub all_digits : (n : ℕ) → n < 2 ^ 64 → AllDigits (decimal n)
all_digits = decimal_by_steps (λ n ds. AllDigits ds) (λ n lt. ((omega arith, omega arith), tt)) (λ n ds big all. all_snoc IsDigit ds _ all (omega arith, omega (arith, mod_small n)))
  where
    mod_small : (n : ℕ) → n % 10 < 10
    mod_small n = omega arith

plain_rest : (b : ℕ) (bs : List ℕ) → EndsPlain (b ∷ bs) → EndsPlain bs
plain_rest b [] h = tt
plain_rest b (c ∷ bs) h = h

never_digits : (b : ℕ) (bs es : List ℕ) → EndsPlain (b ∷ bs) → AllDigits ((b ∷ bs) ++ es) → ⊥
never_digits b [] es plain all = plain all.0
never_digits b (c ∷ bs) es plain all = never_digits c bs es plain all.1

parts : (xs ys ds es : List ℕ) → EndsPlain xs → EndsPlain ys → AllDigits ds → AllDigits es → xs ++ ds ≡ ys ++ es → (xs ≡ ys) × (ds ≡ es)
parts [] [] ds es p q a b e = (refl, e)
parts [] (y ∷ ys) ds es p q a b e = absurd (never_digits y ys es q (subst AllDigits e a))
parts (x ∷ xs) [] ds es p q a b e = absurd (never_digits x xs ds p (subst AllDigits (sym e) b))
parts (x ∷ xs) (y ∷ ys) ds es p q a b e =
    let heads : x ≡ y = cc in
    let tails : xs ++ ds ≡ ys ++ es = cc in
    let rest = parts xs ys ds es (plain_rest x xs p) (plain_rest y ys q) a b tails in
    (head_tail x y xs ys heads rest.0, rest.1)
  where
    head_tail : (x y : ℕ) (xs ys : List ℕ) → x ≡ y → xs ≡ ys → x ∷ xs ≡ y ∷ ys
    head_tail x y xs ys h t = cc

pub name_parts : (n m : List ℕ) (u v : ℕ) → EndsPlain n → EndsPlain m → u < 2 ^ 64 → v < 2 ^ 64 → n ++ decimal u ≡ m ++ decimal v → (n ≡ m) × (u ≡ v)
name_parts n m u v p q small little e =
    let both = parts n m (decimal u) (decimal v) p q (all_digits u small) (all_digits v little) e in
    (both.0, decimal_injective u v small little both.1)
