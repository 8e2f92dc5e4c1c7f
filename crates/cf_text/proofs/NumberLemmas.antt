use Rattle.std.proofs.Common.{◌≡◌, ◌∙◌, ℕ, ◌+◌, ◌*◌, ◌<◌, ◌≤◌, inl, inr, true, false, List, length, get_or, take, min, refl, sym, ap, arith, Option, Some, None, option_map, ℤ, pos, neg_ℤ}
use Rattle.std.specs.Prelude.{int_le}
use Rattle.std.proofs.lemmas.Int.{ints}
use Rattle.std.proofs.Math.Nat.{min-eq_left, min-eq_right}
use Rattle.std.proofs.lemmas.Bool.{cases_lt}
use Rattle.std.proofs.lemmas.Bool.Decides.{nat_tests}
use Rattle.std.proofs.lemmas.Int.Digits.{digits_value_more}
use Rattle.std.proofs.lemmas.List.Folds.{list_all_more}
use Rattle.std.proofs.lemmas.Nat.{mul-le}
use Rattle.std.specs.Char.{digit_value, is_digit}
use Rattle.std.specs.List.{list_all}
use Rattle.std.specs.Str.Parse.{digits_value}
use Rattle.cf_text.specs.declared.number.NumberRead.TheVariants.{OutOfRange, Value}
use Rattle.cf_text.specs.NumberRead.{read_of}

-- a number that was cut down to a bound is as good as itself, if it is cut down again after one more digit
min_more : (radix n d bound : ℕ) → 1 ≤ radix → min (min n bound * radix + d) bound ≡ min (n * radix + d) bound
min_more radix n d bound h =
    elim (cases_lt n bound) [
      | inl below ↦ let same : n ≤ bound = omega arith in rw (min-eq_left same) refl
      | inr above ↦
          let grows : bound * 1 ≤ n * radix = mul-le bound 1 n radix above h in
          let alone : bound * 1 ≤ bound * radix = mul-le bound 1 bound radix (omega arith) h in
          rw (min-eq_right above) (min-eq_right (omega (arith, alone)) ∙ sym (min-eq_right (omega (arith, grows))))
    ]

-- one more byte that is a digit
pub digit_read : (radix : ℕ) (bytes : List ℕ) (i x : ℕ) → i < length bytes → x ≡ get_or bytes i 0 → digit_value x < radix
    → list_all (λ c. is_digit c radix) (take i bytes) ≡ true → list_all (λ c. is_digit c radix) (take (i + 1) bytes) ≡ true
digit_read radix bytes i x h is small so_far =
    let here : is_digit (get_or bytes i 0) radix ≡ true = rw (← is) (grind (arith, nat_tests)) in
    rw (list_all_more (λ c. is_digit c radix) bytes i 0 h, so_far) here

-- and its value
pub value_read : (radix : ℕ) (bytes : List ℕ) (i x digit value next bound : ℕ) → 1 ≤ radix → i < length bytes → x ≡ get_or bytes i 0 → digit ≡ digit_value x
    → value ≡ min (digits_value radix (take i bytes)) bound → next ≡ min (value * radix + digit) bound
    → next ≡ min (digits_value radix (take (i + 1) bytes)) bound
value_read radix bytes i x digit value next bound low h is digit_is value_is next_is =
    next_is ∙ ap (λ (v : ℕ). min (v * radix + digit) bound) value_is ∙ min_more radix (digits_value radix (take i bytes)) digit bound low
    ∙ ap (λ (d : ℕ). min (digits_value radix (take i bytes) * radix + d) bound) (digit_is ∙ ap digit_value is)
    ∙ ap (λ (n : ℕ). min n bound) (sym (digits_value_more radix bytes i h))

pub capped : (o : Option ℕ) (n bound : ℕ) → Some n ≡ option_map (λ m. min m bound) o → n ≤ bound
capped None n bound h = cc
capped (Some m) n bound h = let is : n ≡ min m bound = cc in omega (arith, is)

-- the number behind a `-`, where it is in its range
pub negative_read : (o : Option ℕ) (n : ℕ) (v : ℤ) → Some n ≡ option_map (λ m. min m 4294967296) o → v ≡ neg_ℤ (pos n) → n ≤ 2147483648
    → Value v ≡ read_of (option_map (λ m. neg_ℤ (pos m)) o)
negative_read None n v h is low = cc
negative_read (Some m) n v h is low =
    let here : n ≡ min m 4294967296 = cc in
    let same : m ≡ n = omega (arith, here) in
    let above : int_le (neg_ℤ (pos 2147483648)) (neg_ℤ (pos n)) ≡ true = grind (arith, ints) in
    let below : int_le (neg_ℤ (pos n)) (pos 4294967295) ≡ true = grind (arith, ints) in
    rw (same, is, above, below) refl

-- a number behind a `-` that is below its range
pub negative_over : (o : Option ℕ) (n : ℕ) → Some n ≡ option_map (λ m. min m 4294967296) o → 2147483648 < n → OutOfRange ≡ read_of (option_map (λ m. neg_ℤ (pos m)) o)
negative_over None n h over = cc
negative_over (Some m) n h over =
    let here : n ≡ min m 4294967296 = cc in
    let far : 2147483648 < m = omega (arith, here) in
    let below : int_le (neg_ℤ (pos 2147483648)) (neg_ℤ (pos m)) ≡ false = grind (arith, ints) in
    rw below refl
