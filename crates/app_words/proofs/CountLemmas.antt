-- The count that a word spells, by how it reads as a number.
use Rattle.std.proofs.Common.{◌≡◌, ℕ, ◌==◌, [], ◌∷◌, length, map, Bool, true, false, ◌&&◌, Option, Some, None, List, refl, ap, sym, ◌∙◌, ◌⊎◌, inl, inr, arith, ℤ, pos, negsuc}
use Rattle.std.specs.Prelude.{nat_abs, nat_le, option_and_then}
use Rattle.std.proofs.lemmas.Bool.Decides.{nat_tests}
use Rattle.cf_text.specs.declared.number.NumberRead.{NumberRead}
use Rattle.cf_text.specs.declared.number.NumberRead.TheVariants.{Not, OutOfRange, Value}
use Rattle.cf_text.specs.NumberRead.{read_of}
use Rattle.cf_text.specs.Shapes.{in_range, number}
use Rattle.config_rules.specs.Form.{given}
use Rattle.app_words.specs.Words.{in_bound_range, in_count_range, load_form}

-- the count that a number gives which passes a test
abbrev pub read_by : (ℤ → Bool) → NumberRead → Option ℕ
read_by fits (Value v) = given (fits v) (nat_abs v)
read_by fits OutOfRange = None
read_by fits Not = None

-- the count that a word spells
abbrev pub spelled : (ℤ → Bool) → List ℕ → Option ℕ
spelled fits word = option_and_then (λ v. given (fits v) (nat_abs v)) (number word)

far : (n : ℕ) → nat_le n 4294967295 ≡ false → (nat_le 1 n && nat_le n 1000) ≡ false
far n h = grind (arith, nat_tests)

farther : (n : ℕ) → nat_le n 4294967295 ≡ false → (nat_le 1 n && nat_le n 4294967295) ≡ false
farther n h = grind (arith, nat_tests)

-- a number that may not be written does not pass
abbrev pub IsWithin : (ℤ → Bool) → Type 0
IsWithin fits = (v : ℤ) → in_range v ≡ false → fits v ≡ false

pub count_within : IsWithin in_count_range
count_within (pos n) h = far n h
count_within (negsuc n) h = refl

pub bound_within : IsWithin in_bound_range
bound_within (pos n) h = farther n h
bound_within (negsuc n) h = refl

by_range : (fits : ℤ → Bool) → IsWithin fits → (test : Bool) (v : ℤ) → in_range v ≡ test → read_by fits (read_of (Some v)) ≡ given (fits v) (nat_abs v)
by_range fits within true v h = rw h refl
by_range fits within false v h = rw (h, within v h) refl

by_number : (fits : ℤ → Bool) → IsWithin fits → (o : Option ℤ) → read_by fits (read_of o) ≡ option_and_then (λ v. given (fits v) (nat_abs v)) o
by_number fits within None = refl
by_number fits within (Some v) = by_range fits within (in_range v) v refl

pub count_is : (fits : ℤ → Bool) → IsWithin fits → (r : NumberRead) (word : List ℕ) → r ≡ read_of (number word) → read_by fits r ≡ spelled fits word
count_is fits within r word e = ap (read_by fits) e ∙ by_number fits within (number word)

-- what is no number, or one out of range, is no count
pub no_count : (fits : ℤ → Bool) → IsWithin fits → (r : NumberRead) (word : List ℕ) → (r ≡ OutOfRange) ⊎ (r ≡ Not) → r ≡ read_of (number word) → None ≡ spelled fits word
no_count fits within r word (inl far_off) e = sym (ap (read_by fits) far_off) ∙ count_is fits within r word e
no_count fits within r word (inr no_number) e = sym (ap (read_by fits) no_number) ∙ count_is fits within r word e

-- more operands than one are no count
pub too_many : {A : Type 0} (f : A → List ℕ) (all : List A) (word : A) (more : List A) → all ≡ word ∷ more → (length more == 0) ≡ false → load_form (map f all) ≡ None
too_many f all word [] is some = absurd cc
too_many f all word (other ∷ more) is some = ap (λ ws. load_form (map f ws)) is
