-- The name of a live device has the form that a line of a history asks for.
use Rattle.std.proofs.Common.{◌≡◌, ℕ, zero, suc, ◌+◌, ◌-◌, ◌<◌, ◌≤◌, ◌^◌, true, nat_le, List, [], ◌∷◌, ◌++◌, length, get_or, refl, arith, decimal, length-append}
use Rattle.std.specs.Prelude.{IsTrue}
use Rattle.std.specs.Char.{is_ascii_digit}
use Rattle.std.specs.List.{AllByRecursion, list_all}
use Rattle.std.proofs.lemmas.Bool.Decides.{nat_tests}
use Rattle.std.proofs.lemmas.Fmt.{length-decimal-le, decimal_nonempty}
use Rattle.std.proofs.lemmas.List.{get_or-append-add}
use Rattle.std.proofs.lemmas.List.Folds.{list_all-append}
use Rattle.std.proofs.lemmas.Bool.{and_from, le-leb, leb-true}
use Rattle.cf_text.specs.Shapes.{begins_name, continues_name, is_name, is_written, ends_with_digit}
use Rattle.run_rules.specs.World.{root_name}
use Rattle.run_rules.specs.Lines.{is_known_name, IsFormedName, IsDeviceName}
use Rattle.run_rules.proofs.Below.{and_both}
use Rattle.run_rules.proofs.NameParts.{IsDigit, AllDigits, all_digits}

pub all_get : {A : Type 0} (P : A → Type 0) (xs : List A) (i : ℕ) (d : A) → AllByRecursion P xs → i < length xs → P (get_or xs i d)
all_get P [] i d h lt = absurd (omega arith)
all_get P (x ∷ xs) zero d h lt = h.0
all_get P (x ∷ xs) (suc i) d h lt = all_get P xs i d h.1 (omega arith)

pub digit_test : (c : ℕ) → IsDigit c → is_ascii_digit c ≡ true
digit_test c h = grind (arith, nat_tests, h.0, h.1)

digit_continues : (c : ℕ) → IsDigit c → continues_name c ≡ true
digit_continues c h = rw (digit_test c h) refl

digits_continue : (ds : List ℕ) → AllDigits ds → list_all continues_name ds ≡ true
digits_continue [] h = refl
digits_continue (d ∷ ds) h = rw (digit_continues d h.0, digits_continue ds h.1) refl

ends_digit : (n ds : List ℕ) → AllDigits ds → 1 ≤ length ds → ends_with_digit (n ++ ds) ≡ true
ends_digit n ds h some =
    let place : length (n ++ ds) - 1 ≡ length n + (length ds - 1) = omega (arith, length-append n ds) in
    rw (place, get_or-append-add n ds (length ds - 1) 0) (digit_test _ (all_get IsDigit ds (length ds - 1) 0 h (omega arith)))

name_goes_on : (n ds : List ℕ) → is_name n ≡ true → AllDigits ds → is_name (n ++ ds) ≡ true
name_goes_on [] ds h all = absurd cc
name_goes_on (c ∷ cs) ds h all =
    let parts = and_both (begins_name c) (list_all continues_name cs) h in
    rw (parts.0, list_all-append continues_name cs ds, parts.1, digits_continue ds all) refl

-- how long a name that may be written is
pub written_length : (n : List ℕ) → IsTrue (is_written n) → (1 ≤ length n) × (length n ≤ 63)
written_length [] w = absurd cc
written_length (c ∷ cs) w = (omega arith, leb-true _ _ (and_both (nat_le (length (c ∷ cs)) 63) (is_name (c ∷ cs)) w).0)

-- a driver's name and a unit
pub written_device : (n : List ℕ) (u : ℕ) → IsTrue (is_written n) → u < 2 ^ 32 → IsDeviceName (n ++ decimal u)
written_device n u w lt =
    let parts = and_both (nat_le (length n) 63) (is_name n) w in
    let short : length n ≤ 63 = leb-true _ _ parts.0 in
    let few : length (decimal u) ≤ 10 = length-decimal-le 10 u (omega arith) (omega arith) (omega arith) in
    let some : 1 ≤ length (decimal u) = decimal_nonempty u (omega arith) in
    let digits : AllDigits (decimal u) = all_digits u (omega arith) in
    and_from _ _ (and_from _ _ (name_goes_on n (decimal u) parts.1 digits) (le-leb _ _ (omega (arith, length-append n (decimal u))))) (ends_digit n (decimal u) digits some)

pub device_known : (n : List ℕ) → IsDeviceName n → IsFormedName n
device_known n h = (and_both (is_known_name n) (ends_with_digit n) h).0

pub root_known : IsFormedName root_name
unfolding root_name
root_known = refl
