-- Numbers of two and three digits, in decimal.
use Rattle.std.proofs.Common.{◌≡◌, ℕ, ◌+◌, ◌/◌, ◌%◌, ◌<◌, ◌≤◌, List, [], ◌∷◌, ◌++◌, decimal, append_assoc, ap, ◌∙◌, arith}
use Rattle.std.proofs.lemmas.Fmt.{decimal_digit, decimal_step}

pub two_digits : (n : ℕ) → 10 ≤ n → n < 100 → decimal n ≡ (48 + n / 10) ∷ (48 + n % 10) ∷ []
two_digits n high low =
    let tens : n / 10 < 10 = omega arith in
    decimal_step n high (omega arith) ∙ ap (λ (ds : List ℕ). ds ++ ((48 + n % 10) ∷ [])) (decimal_digit (n / 10) tens)

pub three_digits : (n : ℕ) → 100 ≤ n → n < 1000 → decimal n ≡ (48 + n / 10 / 10) ∷ (48 + n / 10 % 10) ∷ (48 + n % 10) ∷ []
three_digits n high low =
    let more : 10 ≤ n / 10 = omega arith in
    let less : n / 10 < 100 = omega arith in
    decimal_step n (omega arith) (omega arith) ∙ ap (λ (ds : List ℕ). ds ++ ((48 + n % 10) ∷ [])) (two_digits (n / 10) more less)

-- put one behind the other, with a byte behind them
pub put_one : (o : List ℕ) (n m u : ℕ) → n < 10 → u ≡ 48 + n % 10 → (o ++ u ∷ []) ++ m ∷ [] ≡ o ++ (decimal n ++ m ∷ [])
put_one o n m u low one =
    let same : n % 10 ≡ n = omega (arith, low) in
    rw (one, same, decimal_digit n low) (append_assoc o ((48 + n) ∷ []) (m ∷ []))

pub put_two : (o : List ℕ) (n m t u : ℕ) → 10 ≤ n → n < 100 → t ≡ 48 + n / 10 % 10 → u ≡ 48 + n % 10 → ((o ++ t ∷ []) ++ u ∷ []) ++ m ∷ [] ≡ o ++ (decimal n ++ m ∷ [])
put_two o n m t u high low ten one =
    let same : n / 10 % 10 ≡ n / 10 = omega (arith, low) in
    rw (ten, one, same, two_digits n high low)
    (ap (λ (xs : List ℕ). xs ++ m ∷ []) (append_assoc o ((48 + n / 10) ∷ []) ((48 + n % 10) ∷ [])) ∙ append_assoc o ((48 + n / 10) ∷ (48 + n % 10) ∷ []) (m ∷ []))

pub put_three : (o : List ℕ) (n m h t u : ℕ) → 100 ≤ n → n < 1000 → h ≡ 48 + n / 10 / 10 → t ≡ 48 + n / 10 % 10 → u ≡ 48 + n % 10
    → (((o ++ h ∷ []) ++ t ∷ []) ++ u ∷ []) ++ m ∷ [] ≡ o ++ (decimal n ++ m ∷ [])
put_three o n m h t u high low hundred ten one =
    rw (hundred, ten, one, three_digits n high low)
    (ap (λ (xs : List ℕ). (xs ++ (48 + n % 10) ∷ []) ++ m ∷ []) (append_assoc o ((48 + n / 10 / 10) ∷ []) ((48 + n / 10 % 10) ∷ []))
    ∙ ap (λ (xs : List ℕ). xs ++ m ∷ []) (append_assoc o ((48 + n / 10 / 10) ∷ (48 + n / 10 % 10) ∷ []) ((48 + n % 10) ∷ []))
    ∙ append_assoc o ((48 + n / 10 / 10) ∷ (48 + n / 10 % 10) ∷ (48 + n % 10) ∷ []) (m ∷ []))
