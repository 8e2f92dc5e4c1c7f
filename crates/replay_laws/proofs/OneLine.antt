-- Texts of one line.
use Rattle.std.proofs.Common.{◌≡◌, ◌≢◌, ℕ, zero, suc, ◌+◌, ◌/◌, ◌%◌, ◌==◌, nat_lt, Bool, true, false, not, List, [], ◌∷◌, ◌++◌, flat_map, decimal, Option, Some, None, refl, sym, ap, ◌∙◌, arith, ne_eqb}
use Rattle.std.specs.Prelude.{ℤ, pos, negsuc}
use Rattle.std.specs.Fmt.{digits, digits_onto, digit_glyph, signed_decimal}
use Rattle.std.specs.List.{AllByRecursion, list_all}
use Rattle.std.specs.Option.{option_map_or}
use Rattle.std.proofs.lemmas.Bool.{and_parts}
use Rattle.std.proofs.lemmas.List.Folds.{list_all-append}
use Rattle.cf_text.specs.Shapes.{begins_name, continues_name, is_name, is_written}
use Rattle.config_rules.specs.MachineText.{is_free_name}
use Rattle.config_rules.proofs.Parts.{cond_both}
use Rattle.replay_laws.specs.OneLine.{IsOneLine}

pub joined : (a b : List ℕ) → IsOneLine a → IsOneLine b → IsOneLine (a ++ b)
joined a b p q = list_all-append (λ c. not (c == 10)) a b ∙ rw (p, q) refl

pub joined_3 : (a b c : List ℕ) → IsOneLine a → IsOneLine b → IsOneLine c → IsOneLine (a ++ b ++ c)
joined_3 a b c p q r = joined (a ++ b) c (joined a b p q) r

pub joined_4 : (a b c d : List ℕ) → IsOneLine a → IsOneLine b → IsOneLine c → IsOneLine d → IsOneLine (a ++ b ++ c ++ d)
joined_4 a b c d p q r s = joined (a ++ b ++ c) d (joined_3 a b c p q r) s

pub all_joined : {A : Type 0} (f : A → List ℕ) (xs : List A) → AllByRecursion (λ x. IsOneLine (f x)) xs → IsOneLine (flat_map f xs)
all_joined f [] h = refl
all_joined f (x ∷ xs) h = joined (f x) (flat_map f xs) h.0 (all_joined f xs h.1)

pub of_option : {A : Type 0} (f : A → List ℕ) (o : Option A) → ((a : A) → o ≡ Some a → IsOneLine (f a)) → IsOneLine (option_map_or f o [])
of_option f None h = refl
of_option f (Some a) h = h a refl

-- ---- numbers

not_ten : (c : ℕ) → c ≢ 10 → not (c == 10) ≡ true
not_ten c h = rw (ne_eqb c 10 h) refl

digit_line : (d : ℕ) → not (digit_glyph false d == 10) ≡ true
digit_line d = cond_both (λ c. not (c == 10) ≡ true) (nat_lt d 10) (48 + d) (87 + d) (λ _. not_ten (48 + d) (λ e. omega (arith, e))) (λ _. not_ten (87 + d) (λ e. omega (arith, e)))

digits_line : (k n : ℕ) (acc : List ℕ) → IsOneLine acc → IsOneLine (digits_onto k 10 false n acc)
digits_line zero n acc h = h
digits_line (suc k) n acc h =
    let more : IsOneLine (digit_glyph false (n % 10) ∷ acc) = rw (digit_line (n % 10), h) refl in
    cond_both IsOneLine (n / 10 == 0) (digit_glyph false (n % 10) ∷ acc) (digits_onto k 10 false (n / 10) (digit_glyph false (n % 10) ∷ acc)) (λ _. more) (λ _. digits_line k (n / 10) (digit_glyph false (n % 10) ∷ acc) more)

pub decimal_line : (n : ℕ) → IsOneLine (decimal n)
unfolding digits
decimal_line n = digits_line 64 n [] refl

pub signed_line : (n : ℤ) → IsOneLine (signed_decimal n)
signed_line (pos n) = decimal_line n
signed_line (negsuc n) = decimal_line (suc n)

-- ---- names

test_line : (p : ℕ → Bool) → p 10 ≡ false → (c : ℕ) → p c ≡ true → not (c == 10) ≡ true
test_line p none c h = not_ten c (λ e. let clash : true ≡ false = sym h ∙ ap p e ∙ none in absurd cc)

pub all_line : (p : ℕ → Bool) → p 10 ≡ false → (cs : List ℕ) → list_all p cs ≡ true → IsOneLine cs
all_line p none [] h = refl
all_line p none (c ∷ cs) h =
    let parts = and_parts (p c) (list_all p cs) h in
    rw (test_line p none c parts.0, all_line p none cs parts.1) refl

pub name_line : (name : List ℕ) → is_name name ≡ true → IsOneLine name
name_line [] h = refl
name_line (c ∷ cs) h =
    let parts = and_parts (begins_name c) (list_all continues_name cs) h in
    rw (test_line begins_name refl c parts.0, all_line continues_name refl cs parts.1) refl

pub written_line : (name : List ℕ) → is_written name ≡ true → IsOneLine name
written_line name h = name_line name (and_parts _ (is_name name) h).1

pub free_line : (name : List ℕ) → is_free_name name ≡ true → IsOneLine name
free_line name h = written_line name (and_parts (is_written name) _ h).0
