-- The numbers of words, within a range.
use Rattle.std.proofs.Common.{◌≡◌, ℕ, ◌≤◌, ◌&&◌, arith, Bool, true, false, cond, Option, Some, None, List, refl, ap, sym, ◌∙◌, ℤ, pos, negsuc, Result, Ok, Err, SFits, w64, to_z, of_z, to_z-of_z}
use Rattle.std.specs.Prelude.{is_some, nat_abs, nat_le}
use Rattle.std.specs.Option.{option_map_or}
use Rattle.std.proofs.lemmas.Bool.Decides.{nat_tests}
use Rattle.cf_text.specs.declared.number.NumberRead.{NumberRead}
use Rattle.cf_text.specs.declared.number.NumberRead.TheVariants.{Not, OutOfRange, Value}
use Rattle.cf_text.specs.NumberRead.{read_of}
use Rattle.cf_text.specs.Shapes.{in_range, number}
use Rattle.cf_types.specs.declared.code.script.TheConstants.{OUT_OF_RANGE, WRONG_WORDS}
use Rattle.config_rules.specs.Cut.{◌>>=◌}
use Rattle.config_rules.specs.Form.{given}
use Rattle.script_text.specs.WatchText.{between}
use Rattle.config_rules.specs.ScriptText.{spells_number, is_value, natural_within, number_within, value_within}

-- ---- what a chunk reads as

abbrev pub within_by : NumberRead → Result ℤ ℕ
within_by (Value v) = Ok v
within_by OutOfRange = Err OUT_OF_RANGE
within_by Not = Err WRONG_WORDS

by_range : (fits : Bool) (v : ℤ) → within_by (cond fits (Value v) OutOfRange) ≡ cond fits (Ok v) (Err OUT_OF_RANGE)
by_range true v = refl
by_range false v = refl

within_by-read_of : (o : Option ℤ) → within_by (read_of o) ≡ value_within in_range o
within_by-read_of None = refl
within_by-read_of (Some v) = by_range (in_range v) v

pub within_is : (r : NumberRead) (word : List ℕ) → r ≡ read_of (number word) → number_within in_range word ≡ within_by r
within_is r word e = sym (ap within_by e ∙ within_by-read_of (number word))

abbrev pub is_read : NumberRead → Bool
is_read Not = false
is_read OutOfRange = true
is_read (Value v) = true

read_either : (fits : Bool) (v : ℤ) → is_read (cond fits (Value v) OutOfRange) ≡ true
read_either true v = refl
read_either false v = refl

is_read-read_of : (o : Option ℤ) → is_read (read_of o) ≡ is_some o
is_read-read_of None = refl
is_read-read_of (Some v) = read_either (in_range v) v

pub number_is : (r : NumberRead) (word : List ℕ) → r ≡ read_of (number word) → is_read r ≡ spells_number word
number_is r word e = ap is_read e ∙ is_read-read_of (number word)

-- ---- a range within that of all numbers

-- what is out of the range of all numbers is out of this one
abbrev pub Narrow : (ℤ → Bool) → Type 0
Narrow fits = (v : ℤ) → in_range v ≡ false → fits v ≡ false

abbrev within_if : Bool → ℤ → Result ℤ ℕ
within_if b v = cond b (Ok v) (Err OUT_OF_RANGE)

abbrev natural : (ℤ → Bool) → Option ℤ → Result ℕ ℕ
natural fits o = value_within fits o >>= λ v. Ok (nat_abs v)

far_if : (fits : ℤ → Bool) (b : Bool) (v : ℤ) (code : ℕ) → Narrow fits → in_range v ≡ b → within_if b v ≡ Err code → natural fits (Some v) ≡ Err code
far_if fits true v code narrow r h = absurd (cc)
far_if fits false v code narrow r h = ap (λ b. within_if b v >>= λ n. Ok (nat_abs n)) (narrow v r) ∙ ap (λ (r : Result ℤ ℕ). r >>= λ n. Ok (nat_abs n)) h

bad_of : (fits : ℤ → Bool) (o : Option ℤ) (code : ℕ) → Narrow fits → value_within in_range o ≡ Err code → natural fits o ≡ Err code
bad_of fits None code narrow h = ap (λ (r : Result ℤ ℕ). r >>= λ n. Ok (nat_abs n)) h
bad_of fits (Some v) code narrow h = far_if fits (in_range v) v code narrow refl h

-- no number, or out of the range of all
pub natural_bad : (fits : ℤ → Bool) (word : List ℕ) (code : ℕ) → Narrow fits → number_within in_range word ≡ Err code → natural_within fits word ≡ Err code
natural_bad fits word code narrow h = bad_of fits (number word) code narrow h

is_if : (b : Bool) (v w : ℤ) → within_if b v ≡ Ok w → v ≡ w
is_if true v w h = cc
is_if false v w h = absurd (cc)

good_of : (o : Option ℤ) (w : ℤ) → value_within in_range o ≡ Ok w → o ≡ Some w
good_of None w h = absurd (cc)
good_of (Some v) w h = ap Some (is_if (in_range v) v w h)

fit_if : (b : Bool) (v : ℤ) → (within_if b v >>= λ n. Ok (nat_abs n)) ≡ option_map_or Ok (given b (nat_abs v)) (Err OUT_OF_RANGE)
fit_if true v = refl
fit_if false v = refl

-- a number that may lie within the range
natural_is : (fits : ℤ → Bool) (word : List ℕ) (v : ℤ) → number_within in_range word ≡ Ok v → natural_within fits word ≡ option_map_or Ok (given (fits v) (nat_abs v)) (Err OUT_OF_RANGE)
natural_is fits word v h = ap (natural fits) (good_of (number word) v h) ∙ fit_if (fits v) v

-- the same of a number of the code, which is what it was before
pub natural_read : (fits : ℤ → Bool) (word : List ℕ) (v : ℤ) (o : Option ℕ) → SFits w64 v → number_within in_range word ≡ Ok v → o ≡ given (fits (to_z w64 (of_z w64 v))) (nat_abs (to_z w64 (of_z w64 v)))
    → natural_within fits word ≡ option_map_or Ok o (Err OUT_OF_RANGE)
natural_read fits word v o range h is =
    let by : Option ℕ → Result ℕ ℕ = λ o. option_map_or Ok o (Err OUT_OF_RANGE) in
    natural_is fits word v h ∙ ap (λ z. by (given (fits z) (nat_abs z))) (sym (to_z-of_z range)) ∙ ap by (sym is)

-- ---- the ranges of values, and from one number to another

far : (n m k : ℕ) → k ≤ 4294967295 → nat_le n 4294967295 ≡ false → (nat_le m n && nat_le n k) ≡ false
far n m k few h = grind (arith, nat_tests)

pub values_narrow : Narrow is_value
values_narrow (pos n) h = far n 0 4294967295 (omega arith) h
values_narrow (negsuc n) h = refl

pub between_narrow : (low high : ℕ) → high ≤ 255 → Narrow (between low high)
between_narrow low high few (pos n) h = far n low high (omega arith) h
between_narrow low high few (negsuc n) h = refl
