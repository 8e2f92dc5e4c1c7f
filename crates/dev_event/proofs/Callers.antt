-- The numbers of the callers, in decimal.
use Rattle.std.proofs.Common.{◌≡◌, ℕ, ◌+◌, ◌-◌, ◌/◌, ◌%◌, ◌<◌, ◌≤◌, ◌==◌, Bool, true, false, List, [], ◌∷◌, ◌++◌, length, decimal, refl, sym, ap, ◌∙◌, arith, eq-eqb, eqb-true, Option, Some, None}
use Rattle.std.specs.Prelude.{bytes_eq, MatchOption}
use Rattle.std.proofs.lemmas.Bool.{and_parts}
use Rattle.std.proofs.lemmas.Fmt.{decimal_digit, decimal_step}
use Rattle.std.proofs.lemmas.List.{length-append}
use Rattle.dev_event.specs.Reading.{before, behind, number_in}
use Rattle.dev_event.specs.Spelled.{NamesCaller}
use Rattle.dev_event.proofs.Cuts.{before_mark}
use Rattle.dev_event.proofs.Shapes.{digits_no_dot, number_read}

pub one_digit : (c : ℕ) → c < 10 → decimal c ≡ (48 + c) ∷ []
one_digit c low = decimal_digit c low

pub two_digits : (c : ℕ) → 10 ≤ c → c ≤ 16 → decimal c ≡ 49 ∷ (48 + (c - 10)) ∷ []
two_digits c high low =
    let tens : c / 10 ≡ 1 = omega arith in
    let ones : c % 10 ≡ c - 10 = omega arith in
    decimal_step c high (omega arith) ∙ ap (λ n. decimal n ++ ((48 + c % 10) ∷ [])) tens ∙ ap (λ ds. ds ++ ((48 + c % 10) ∷ [])) (decimal_digit 1 (omega arith)) ∙ ap (λ n. 49 ∷ (48 + n) ∷ []) ones

-- where a dot stands, what is before and behind it make up the line
pub whole : (m : ℕ) (line : List ℕ) → (length (before m line) ≡ length line → ⊥) → line ≡ before m line ++ m ∷ behind m line
whole m [] dotless = absurd (dotless refl)
whole m (c ∷ cs) dotless = by (c == m) refl (whole m cs)
  where
    by : (b : Bool) → (c == m) ≡ b → ((length (before m cs) ≡ length cs → ⊥) → cs ≡ before m cs ++ m ∷ behind m cs) → c ∷ cs ≡ before m (c ∷ cs) ++ m ∷ behind m (c ∷ cs)
    by true here rest = rw here (ap (λ x. x ∷ cs) (eqb-true c m here))
    by false other rest =
        let shorter : length (before m cs) ≡ length cs → ⊥ = λ same. dotless (rw other (omega arith)) in
        rw other (ap (λ xs. c ∷ xs) (rest shorter))

pub before_caller : (line : List ℕ) (c : ℕ) → NamesCaller line c → before 46 line ≡ decimal c
before_caller line c names = ap (before 46) names.begins ∙ before_mark 46 (decimal c) names.rest (digits_no_dot c (omega (arith, names.low)))

pub dot_there : (line : List ℕ) (c : ℕ) → NamesCaller line c → length (before 46 line) ≡ length line → ⊥
dot_there line c names same =
    let front : length (before 46 line) ≡ length (decimal c) = ap length (before_caller line c names) in
    let all : length line ≡ length (decimal c ++ 46 ∷ names.rest) = ap length names.begins in
    absurd (omega (arith, length-append (decimal c) (46 ∷ names.rest)))

pub named : (line : List ℕ) (c : ℕ) → c ≤ 16 → decimal c ≡ before 46 line → (length (before 46 line) ≡ length line → ⊥) → NamesCaller line c
named line c low digits dotted = record { low = low; rest = behind 46 line; begins = whole 46 line dotted ∙ ap (λ ds. ds ++ 46 ∷ behind 46 line) (sym digits) }

-- ---- by comparing digits

bytes_same : (xs ys : List ℕ) → bytes_eq xs ys ≡ true → xs ≡ ys
bytes_same [] [] same = refl
bytes_same [] (y ∷ ys) same = absurd cc
bytes_same (x ∷ xs) [] same = absurd cc
bytes_same (x ∷ xs) (y ∷ ys) same =
    let parts = and_parts (x == y) (bytes_eq xs ys) same in
    let heads : x ≡ y = eqb-true x y parts.0 in
    let tails : xs ≡ ys = bytes_same xs ys parts.1 in
    cc

pub bytes_refl : (xs : List ℕ) → bytes_eq xs xs ≡ true
bytes_refl [] = refl
bytes_refl (x ∷ xs) = rw (eq-eqb x x refl, bytes_refl xs) refl

pub digits_are : (digits : List ℕ) (n : ℕ) → bytes_eq digits (decimal n) ≡ true → decimal n ≡ digits
digits_are digits n same = sym (bytes_same digits (decimal n) same)

-- the number that digits spell is that of a caller whose digits they are
pub caller_number : (digits : List ℕ) (n c : ℕ) → n ≡ number_in digits → c ≤ 16 → decimal c ≡ digits → n ≡ c
caller_number digits n c is low same = is ∙ ap number_in (sym same) ∙ number_read c (omega arith)

pub digits_are_none : (digits : List ℕ) (n c : ℕ) → n ≡ number_in digits → bytes_eq digits (decimal n) ≡ false → c ≤ 16 → decimal c ≡ digits → ⊥
digits_are_none digits n c is other low same =
    let number : n ≡ c = caller_number digits n c is low same in
    let never : true ≡ false = sym (bytes_refl digits) ∙ ap (bytes_eq digits) (sym same ∙ ap decimal (sym number)) ∙ other in
    absurd cc

pub caller_read : (o : Option ℕ) (line digits : List ℕ) → digits ≡ before 46 line → (length digits ≡ length line → ⊥)
    → MatchOption o ((c : ℕ) → c ≤ 16 → decimal c ≡ digits → ⊥) (λ c. (c ≤ 16) × (decimal c ≡ digits)) → MatchOption o ((c : ℕ) → NamesCaller line c → ⊥) (NamesCaller line)
caller_read None line digits is dotted none = λ c names. none c names.low (sym (before_caller line c names) ∙ sym is)
caller_read (Some c) line digits is dotted found =
    named line c found.0 (found.1 ∙ is) (λ same. dotted (ap length is ∙ same))
