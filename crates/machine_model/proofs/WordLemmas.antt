-- The numbers of words, and words that differ.
use Rattle.std.proofs.Common.{◌≡◌, ℕ, ◌≤◌, length, map, Bool, true, false, not, cond, ◌&&◌, ◌||◌, Option, Some, None, List, [], ◌∷◌, refl, ap, sym, ◌∙◌, arith, ℤ, pos, negsuc}
use Rattle.std.specs.Prelude.{nat_abs, nat_le, option_and_then, option_map}
use Rattle.std.specs.List.{list_any}
use Rattle.std.proofs.lemmas.Bool.Decides.{nat_tests}
use Rattle.cf_text.specs.declared.number.NumberRead.{NumberRead}
use Rattle.cf_text.specs.declared.number.NumberRead.TheVariants.{Not, OutOfRange, Value}
use Rattle.cf_text.specs.NumberRead.{read_of}
use Rattle.cf_text.specs.Shapes.{in_range, number}
use Rattle.config_rules.specs.Form.{given}
use Rattle.machine_model.specs.declared.locator.FoundValue.{FoundValue}
use Rattle.machine_model.specs.Found.{given_of, names_of}
use Rattle.config_rules.specs.MachineText.{differ, in_match_range, is_one, ranged_match, ranged}

-- ---- numbers

abbrev pub ranged_by : NumberRead → Option (Option ℤ)
ranged_by (Value v) = Some (Some v)
ranged_by OutOfRange = Some None
ranged_by Not = None

by_range : (fits : Bool) (v : ℤ) → ranged_by (cond fits (Value v) OutOfRange) ≡ Some (given fits v)
by_range true v = refl
by_range false v = refl

ranged_by-read_of : (o : Option ℤ) → ranged_by (read_of o) ≡ option_map (λ v. given (in_range v) v) o
ranged_by-read_of None = refl
ranged_by-read_of (Some v) = by_range (in_range v) v

pub ranged_is : (r : NumberRead) (word : List ℕ) → r ≡ read_of (number word) → ranged_by r ≡ ranged word
ranged_is r word e = ap ranged_by e ∙ ranged_by-read_of (number word)

abbrev pub match_by : Option (Option ℤ) → Option (Option ℕ)
match_by (Some o) = Some (option_and_then (λ v. given (in_match_range v) (nat_abs v)) o)
match_by None = None

far : (n : ℕ) → nat_le n 4294967295 ≡ false → (nat_le 0 n && nat_le n 65535) ≡ false
far n h = grind (arith, nat_tests)

out_of_both : (v : ℤ) → in_range v ≡ false → in_match_range v ≡ false
out_of_both (pos n) h = far n h
out_of_both (negsuc n) h = refl

match_if : (b : Bool) (v : ℤ) → in_range v ≡ b → match_by (Some (given b v)) ≡ Some (given (in_match_range v) (nat_abs v))
match_if true v h = refl
match_if false v h = ap (λ fits. Some (given fits (nat_abs v))) (sym (out_of_both v h))

match_of : (o : Option ℤ) → match_by (option_map (λ v. given (in_range v) v) o) ≡ option_map (λ v. given (in_match_range v) (nat_abs v)) o
match_of None = refl
match_of (Some v) = match_if (in_range v) v refl

pub match_is : (o : Option (Option ℤ)) (word : List ℕ) → o ≡ ranged word → match_by o ≡ ranged_match word
match_is o word e = ap match_by e ∙ match_of (number word)

-- ---- words that differ

pub twice : (w : List ℕ) (ws : List (List ℕ)) → is_one ws w ≡ true → differ (w ∷ ws) ≡ false
twice w ws h = ap (λ b. not b && differ ws) h

pub once : (w : List ℕ) (ws : List (List ℕ)) → is_one ws w ≡ false → differ (w ∷ ws) ≡ differ ws
once w ws h = ap (λ b. not b && differ ws) h

pub none_differ : (ws : List (List ℕ)) → length ws ≤ 0 → differ ws ≡ true
none_differ [] h = refl
none_differ (w ∷ ws) h = absurd (omega arith)

pub names_given : (found : List FoundValue) → map (λ g. g.name) (map given_of found) ≡ names_of found
names_given [] = refl
names_given (v ∷ vs) = ap (λ names. v.name.now ∷ names) (names_given vs)

pub any_named : (p : List ℕ → Bool) (found : List FoundValue) → list_any p (names_of found) ≡ list_any (λ v. p v.name.now) found
any_named p [] = refl
any_named p (v ∷ vs) = ap (λ b. p v.name.now || b) (any_named p vs)

-- what stands for a value where there is none
abbrev pub no_value : FoundValue
no_value = record { name = record { ref_ptr = (0, 0); now = [] }; value = None }
