-- The callers that lines name.
use Rattle.std.proofs.Common.{◌≡◌, ℕ, ◌≤◌, Bool, true, false, List, [], ◌∷◌, ◌++◌, length, take, decimal, Some, None, refl, sym, ap, ◌∙◌, arith, append_assoc}
use Rattle.std.specs.Prelude.{bytes_eq, codes}
use Rattle.std.proofs.lemmas.Slice.Eq.{bytes_eq-Decides}
use Rattle.run_rules.specs.Reread.{begins_with, caller_of}
use Rattle.run_rules.proofs.Below.{find-is, find-none}
use Rattle.dev_event.specs.Reading.{number_in}
use Rattle.dev_event.specs.Spelled.{NamesCaller}
use Rattle.dev_event.proofs.Callers.{before_caller, bytes_refl, caller_number}

append_take : (xs ys : List ℕ) → take (length xs) (xs ++ ys) ≡ xs
append_take [] ys = refl
append_take (x ∷ xs) ys = ap (λ (r : List ℕ). x ∷ r) (append_take xs ys)

taken_whole : (line xs : List ℕ) → take (length xs) line ≡ xs → (rest : List ℕ) × (line ≡ xs ++ rest)
taken_whole line [] e = (line, refl)
taken_whole [] (x ∷ xs) e = absurd cc
taken_whole (b ∷ bs) (x ∷ xs) e =
    let head : b ≡ x = cc in
    let tail : take (length xs) bs ≡ xs = cc in
    let more = taken_whole bs xs tail in
    (more.0, ap (λ y. y ∷ bs) head ∙ ap (λ (r : List ℕ). x ∷ r) more.1)

-- a line that names a caller begins with its number and a dot
named_begins : (line : List ℕ) (c : ℕ) → NamesCaller line c → begins_with line (decimal c ++ codes ".") ≡ true
named_begins line c names =
    let is : line ≡ (decimal c ++ codes ".") ++ names.rest = names.begins ∙ sym (append_assoc (decimal c) (46 ∷ []) names.rest) in
    ap (λ (xs : List ℕ). bytes_eq (take (length (decimal c ++ codes ".")) xs) (decimal c ++ codes ".")) is
    ∙ ap (λ (xs : List ℕ). bytes_eq xs (decimal c ++ codes ".")) (append_take (decimal c ++ codes ".") names.rest) ∙ bytes_refl (decimal c ++ codes ".")

begins_named : (line : List ℕ) (c : ℕ) → c ≤ 16 → begins_with line (decimal c ++ codes ".") ≡ true → NamesCaller line c
begins_named line c low e =
    let whole = taken_whole line (decimal c ++ codes ".") ((bytes_eq-Decides _ _).0 e) in
    record { low = low; rest = whole.0; begins = whole.1 ∙ append_assoc (decimal c) (46 ∷ []) whole.0 }

-- no line names two
one_caller : (line : List ℕ) (c q : ℕ) → NamesCaller line c → NamesCaller line q → c ≡ q
one_caller line c q names other =
    sym (caller_number (decimal c) (number_in (decimal c)) c refl names.low refl)
    ∙ caller_number (decimal c) (number_in (decimal c)) q refl other.low (sym (before_caller line q other) ∙ before_caller line c names)

not_so : (b : Bool) → (b ≡ true → ⊥) → b ≡ false
not_so true h = absurd (h refl)
not_so false h = refl

pub caller_is : (line : List ℕ) (c : ℕ) → NamesCaller line c → caller_of line ≡ Some c
caller_is line c names =
    find-is (λ k. begins_with line (decimal k ++ codes ".")) 17 c (omega (arith, names.low)) (named_begins line c names)
    (λ q less. not_so _ (λ e. absurd (omega (arith, less, one_caller line c q names (begins_named line q (omega (arith, less, names.low)) e)))))

pub caller_none : (line : List ℕ) → ((c : ℕ) → NamesCaller line c → ⊥) → caller_of line ≡ None
caller_none line none =
    find-none (λ k. begins_with line (decimal k ++ codes ".")) 17 (λ q less. not_so _ (λ e. none q (begins_named line q (omega (arith, less)) e)))
