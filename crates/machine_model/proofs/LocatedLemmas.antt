-- A word that is `loc=V`, by the place of its first `=`.
use Rattle.std.proofs.Common.{◌≡◌, ℕ, zero, suc, ◌+◌, ◌<◌, ◌||◌, ◌&&◌, Bool, true, false, not, cond, List, [], ◌∷◌, length, take, drop, Some, None, refl, ap, sym, ◌∙◌, arith}
use Rattle.std.specs.Prelude.{◌==◌, nat_lt, option_map, position}
use Rattle.std.specs.List.{list_any, position_or_len}
use Rattle.std.proofs.lemmas.Bool.Decides.{nat_tests}
use Rattle.config_rules.specs.MachineText.{is_located, located_value, ranged}

abbrev at_equals : List ℕ → ℕ
at_equals word = position_or_len (λ c. c == 61) word

place_is : (word : List ℕ) (k : ℕ) → position (λ c. c == 61) word ≡ Some k → (at_equals word ≡ k) × (k < length word)
place_is word k e = by (nat_lt (at_equals word) (length word)) refl e
  where
    by : (b : Bool) → nat_lt (at_equals word) (length word) ≡ b → cond (nat_lt (at_equals word) (length word)) (Some (at_equals word)) None ≡ Some k → (at_equals word ≡ k) × (k < length word)
    by true t h =
        let here : Some (at_equals word) ≡ Some k = rw t at h in
        let same : at_equals word ≡ k = cc in
        let less : at_equals word < length word = grind (arith, nat_tests) in
        (same, omega (arith, same, less))
    by false t h =
        let never : None ≡ Some k = rw t at h in
        absurd cc

-- a word that has the mark, and one that has not
has_mark : (word : List ℕ) → at_equals word < length word → list_any (λ c. c == 61) word ≡ true
has_mark [] h = absurd (omega arith)
has_mark (x ∷ xs) h = by (x == 61) refl h (λ less. has_mark xs less)
  where
    by : (b : Bool) → (x == 61) ≡ b → cond (not (x == 61)) (1 + at_equals xs) 0 < length (x ∷ xs) → (at_equals xs < length xs → list_any (λ c. c == 61) xs ≡ true)
        → list_any (λ c. c == 61) (x ∷ xs) ≡ true
    by true e h later = ap (λ b. b || list_any (λ c. c == 61) xs) e
    by false e h later =
        let less : 1 + at_equals xs < length (x ∷ xs) = rw e at h in
        ap (λ b. b || list_any (λ c. c == 61) xs) e ∙ later (omega (arith, less))

past_end : (word : List ℕ) → position (λ c. c == 61) word ≡ None → nat_lt (at_equals word) (length word) ≡ false
past_end word e = by (nat_lt (at_equals word) (length word)) refl e
  where
    by : (b : Bool) → nat_lt (at_equals word) (length word) ≡ b → cond (nat_lt (at_equals word) (length word)) (Some (at_equals word)) None ≡ None → nat_lt (at_equals word) (length word) ≡ false
    by true t h = let never : Some (at_equals word) ≡ None = rw t at h in absurd cc
    by false t h = t

has_no_mark : (word : List ℕ) → nat_lt (at_equals word) (length word) ≡ false → list_any (λ c. c == 61) word ≡ false
has_no_mark [] h = refl
has_no_mark (x ∷ xs) h = by (x == 61) refl h (λ past. has_no_mark xs past)
  where
    by : (b : Bool) → (x == 61) ≡ b → nat_lt (cond (not (x == 61)) (1 + at_equals xs) 0) (length (x ∷ xs)) ≡ false → (nat_lt (at_equals xs) (length xs) ≡ false → list_any (λ c. c == 61) xs ≡ false)
        → list_any (λ c. c == 61) (x ∷ xs) ≡ false
    by true e h later =
        let never : nat_lt 0 (length (x ∷ xs)) ≡ false = rw e at h in
        absurd (grind (arith, nat_tests))
    by false e h later =
        let more : nat_lt (1 + at_equals xs) (length (x ∷ xs)) ≡ false = rw e at h in
        ap (λ b. b || list_any (λ c. c == 61) xs) e ∙ later (grind (arith, nat_tests))

some_taken : (word : List ℕ) (k : ℕ) → 0 < k → k < length word → nat_lt 0 (length (take k word)) ≡ true
some_taken word zero some within = absurd (omega (arith, some))
some_taken [] (suc k) some within = absurd (omega (arith, within))
some_taken (x ∷ xs) (suc k) some within = grind (arith, nat_tests)

pub located_at : (word : List ℕ) (k : ℕ) → position (λ c. c == 61) word ≡ Some k → 0 < k
    → located_value word ≡ option_map (λ v. record { name = take k word; value = v }) (ranged (drop (k + 1) word))
located_at word k at some =
    let is = place_is word k at in
    let there : is_located word ≡ true =
    ap (λ b. b && nat_lt 0 (length (take (at_equals word) word))) (has_mark word (omega (arith, is.0, is.1)))
    ∙ ap (λ n. nat_lt 0 (length (take n word))) is.0 ∙ some_taken word k some is.1 in
    ap (λ b. cond b (option_map (λ v. record { name = take (at_equals word) word; value = v }) (ranged (drop (at_equals word + 1) word))) None) there
    ∙ ap (λ n. option_map (λ v. record { name = take n word; value = v }) (ranged (drop (n + 1) word))) is.0

pub located_first : (word : List ℕ) (k : ℕ) → position (λ c. c == 61) word ≡ Some k → k ≡ 0 → None ≡ located_value word
located_first word k at none =
    let is = place_is word k at in
    let there : is_located word ≡ false =
    ap (λ b. b && nat_lt 0 (length (take (at_equals word) word))) (has_mark word (omega (arith, is.0, is.1)))
    ∙ ap (λ n. nat_lt 0 (length (take n word))) (is.0 ∙ none) in
    sym (ap (λ b. cond b (option_map (λ v. record { name = take (at_equals word) word; value = v }) (ranged (drop (at_equals word + 1) word))) None) there)

pub located_none : (word : List ℕ) → position (λ c. c == 61) word ≡ None → None ≡ located_value word
located_none word none =
    sym (
    ap (λ b. cond (b && nat_lt 0 (length (take (at_equals word) word))) (option_map (λ v. record { name = take (at_equals word) word; value = v }) (ranged (drop (at_equals word + 1) word))) None)
    (has_no_mark word (past_end word none))
    )

-- a place that is not the first
pub after_first : (k : ℕ) → (k ≡ 0 → ⊥) → 0 < k
after_first zero h = absurd (h refl)
after_first (suc k) h = omega arith
