-- The first line of a text, and the first part of a line.
use Rattle.std.proofs.Common.{◌≡◌, ℕ, suc, ◌+◌, ◌<◌, ◌||◌, Bool, true, false, not, cond, List, [], ◌∷◌, ◌++◌, get_or, length, take, drop, Option, Some, None, refl, ap, sym, ◌∙◌, arith, length-drop}
use Rattle.std.specs.Prelude.{◌==◌, filter, nat_lt, option_map, position}
use Rattle.std.specs.List.{onto_first, position_or_len, slice_split}
use Rattle.std.proofs.lemmas.Bool.{false_from_ne_true}
use Rattle.std.proofs.lemmas.List.Splits.{slice_split_first}
use Rattle.std.proofs.lemmas.List.Sums.{position_or_len_is}
use Rattle.memchr.specs.Find.{IsFirstByte, is_byte}
use Rattle.cf_types.proofs.PlaceLemmas.{position_cons}
use Rattle.cf_types.specs.Lines.{lines_of}
use Rattle.config_rules.specs.Cut.{is_space}
use Rattle.config_rules.specs.MachineText.{uncommented, words_of}
use Rattle.machine_text.specs.Words.{IsFirstLine, IsFirstPart, some_word}

-- ---- lines

at_newline : (text : List ℕ) (k : ℕ) → IsFirstByte (is_byte 10) text (Some k) → position_or_len (λ c. c == 10) text ≡ k
at_newline text k first =
    position_or_len_is (λ c. c == 10) text k 0 (omega (arith, first.0.high)) (λ j lt. false_from_ne_true _ (first.0.before j (omega arith) lt)) (λ lt. first.1)

-- the line before the first newline
pub line_before : (text rest : List ℕ) (k : ℕ) → IsFirstByte (is_byte 10) text (Some k) → rest ≡ drop (k + 1) text → IsFirstLine text (take k text) rest
line_before text rest k first is =
    let at = at_newline text k first in
    record {
      lines =
          slice_split_first (λ c. c == 10) text 0 (omega (arith, at, first.0.high))
          ∙ ap (λ n. take n text ∷ lines_of (drop (n + 1) text)) at
          ∙ ap (λ (r : List ℕ). take k text ∷ lines_of r) (sym is);
      shorter = omega (arith, ap length is, length-drop (k + 1) text, first.0.high);
    }

-- one line, where there is no newline
pub only_line : (text : List ℕ) → IsFirstByte (is_byte 10) text None → lines_of text ≡ text ∷ []
only_line text none = whole text (λ k lt. false_from_ne_true _ (none k (omega arith) lt))
  where
    whole : (text : List ℕ) → ((k : ℕ) → k < length text → (get_or text k 0 == 10) ≡ false) → lines_of text ≡ text ∷ []
    whole [] fails = refl
    whole (x ∷ xs) fails =
        let here : (x == 10) ≡ false = fails 0 (omega arith) in
        ap (λ b. cond b ([] ∷ lines_of xs) (onto_first x (lines_of xs))) here
        ∙ ap (onto_first x) (whole xs (λ k lt. fails (suc k) (omega (arith, lt))))

-- ---- parts

abbrev pub ends : ℕ → Bool
ends c = is_space c || c == 35

abbrev parts : List ℕ → List (List ℕ)
parts text = slice_split is_space (uncommented text)

-- the parts of a line from its first byte on, by whether that is the mark before a comment
parts_if : (b : Bool) (x : ℕ) (xs : List ℕ) → (x == 35) ≡ b → parts (x ∷ xs) ≡ cond b ([] ∷ []) (cond (is_space x) ([] ∷ parts xs) (onto_first x (parts xs)))
parts_if true x xs e = ap (λ b. slice_split is_space (take (cond (not b) (1 + position_or_len (λ c. c == 35) xs) 0) (x ∷ xs))) e
parts_if false x xs e =
    let on : 1 + position_or_len (λ c. c == 35) xs ≡ suc (position_or_len (λ c. c == 35) xs) = omega arith in
    ap (λ b. slice_split is_space (take (cond (not b) (1 + position_or_len (λ c. c == 35) xs) 0) (x ∷ xs))) e
    ∙ ap (λ n. slice_split is_space (take n (x ∷ xs))) on

no_place : (o : Option ℕ) → option_map (λ k. k + 1) o ≡ None → o ≡ None
no_place None e = refl
no_place (Some q) e = absurd cc

some_place : (o : Option ℕ) (p : ℕ) → option_map (λ k. k + 1) o ≡ Some p → (q : ℕ) × (o ≡ Some q) × (p ≡ suc q)
some_place None p e = absurd cc
some_place (Some q) p e = let same : q + 1 ≡ p = cc in (q, refl, omega (arith, same))

some_none : (p : ℕ) → Some p ≡ None → ⊥
some_none p e = cc

one_part : (text : List ℕ) → position ends text ≡ None → parts text ≡ text ∷ []
one_part [] e = refl
one_part (x ∷ xs) e = by (x == 35) refl (is_space x) refl (sym (position_cons ends x xs) ∙ e) (λ h. one_part xs h)
  where
    by : (b : Bool) → (x == 35) ≡ b → (s : Bool) → is_space x ≡ s → cond (ends x) (Some 0) (option_map (λ k. k + 1) (position ends xs)) ≡ None
        → (position ends xs ≡ None → parts xs ≡ xs ∷ []) → parts (x ∷ xs) ≡ (x ∷ xs) ∷ []
    by b e true s h later = absurd (some_none 0 (rw s at h))
    by true e false s h later = absurd (some_none 0 (rw (s, e) at h))
    by false e false s h later = parts_if false x xs e ∙ ap (λ c. cond c ([] ∷ parts xs) (onto_first x (parts xs))) s ∙ ap (onto_first x) (later (no_place (position ends xs) (rw (s, e) at h)))

-- up to the first byte that ends a part
abbrev PartAt : List ℕ → ℕ → Type 0
PartAt text k = parts text ≡ take k text ∷ cond (get_or text k 0 == 35) [] (parts (drop (suc k) text))

part_at : (text : List ℕ) (k : ℕ) → position ends text ≡ Some k → PartAt text k
part_at [] k e = absurd cc
part_at (x ∷ xs) k e = by (x == 35) refl (is_space x) refl (sym (position_cons ends x xs) ∙ e) (λ q h. part_at xs q h)
  where
    by : (b : Bool) → (x == 35) ≡ b → (s : Bool) → is_space x ≡ s → cond (ends x) (Some 0) (option_map (λ k. k + 1) (position ends xs)) ≡ Some k
        → ((q : ℕ) → position ends xs ≡ Some q → PartAt xs q) → PartAt (x ∷ xs) k
    by true e true s h later =
        let here : Some 0 ≡ Some k = rw s at h in
        let zero_place : k ≡ 0 = cc in
        rw zero_place (parts_if true x xs e ∙ ap (λ b. [] ∷ cond b [] (parts xs)) (sym e))
    by true e false s h later =
        let here : Some 0 ≡ Some k = rw (s, e) at h in
        let zero_place : k ≡ 0 = cc in
        rw zero_place (parts_if true x xs e ∙ ap (λ b. [] ∷ cond b [] (parts xs)) (sym e))
    by false e true s h later =
        let here : Some 0 ≡ Some k = rw s at h in
        let zero_place : k ≡ 0 = cc in
        rw zero_place (parts_if false x xs e ∙ ap (λ c. cond c ([] ∷ parts xs) (onto_first x (parts xs))) s ∙ ap (λ b. [] ∷ cond b [] (parts xs)) (sym e))
    by false e false s h later =
        let more = some_place (position ends xs) k (rw (s, e) at h) in
        let here : parts (x ∷ xs) ≡ onto_first x (parts xs) = parts_if false x xs e ∙ ap (λ c. cond c ([] ∷ parts xs) (onto_first x (parts xs))) s in
        rw more.2 (here ∙ ap (onto_first x) (later more.0 more.1))

-- ---- the words of the parts

first_word : (part : List ℕ) (more : List (List ℕ)) → filter (λ w. nat_lt 0 (length w)) (part ∷ more) ≡ some_word part ++ filter (λ w. nat_lt 0 (length w)) more
first_word part more = by (nat_lt 0 (length part)) refl
  where
    by : (b : Bool) → nat_lt 0 (length part) ≡ b → cond (nat_lt 0 (length part)) (part ∷ filter (λ w. nat_lt 0 (length w)) more) (filter (λ w. nat_lt 0 (length w)) more)
        ≡ cond (nat_lt 0 (length part)) (part ∷ []) [] ++ filter (λ w. nat_lt 0 (length w)) more
    by true e = rw e refl
    by false e = rw e refl

pub only_part : (line : List ℕ) → position ends line ≡ None → words_of line ≡ some_word line
only_part line e = ap (filter (λ w. nat_lt 0 (length w))) (one_part line e)

pub part_before : (line : List ℕ) (k : ℕ) → position ends line ≡ Some k → (get_or line k 0 == 35) ≡ true → words_of line ≡ some_word (take k line)
part_before line k e mark = ap (filter (λ w. nat_lt 0 (length w))) (part_at line k e ∙ ap (λ b. take k line ∷ cond b [] (parts (drop (suc k) line))) mark)

pub first_part : (line rest : List ℕ) (k : ℕ) → position ends line ≡ Some k → (get_or line k 0 == 35) ≡ false → k < length line → rest ≡ drop (k + 1) line → IsFirstPart line (take k line) rest
first_part line rest k e mark within is = let on : k + 1 ≡ suc k = omega arith in record {
  words =
      ap (filter (λ w. nat_lt 0 (length w))) (part_at line k e ∙ ap (λ b. take k line ∷ cond b [] (parts (drop (suc k) line))) mark)
      ∙ first_word (take k line) (parts (drop (suc k) line))
      ∙ ap (λ (r : List ℕ). some_word (take k line) ++ words_of r) (sym (is ∙ ap (λ n. drop n line) on));
  shorter = omega (arith, ap length is, length-drop (k + 1) line, within);
}

pub within_line : (line : List ℕ) (k : ℕ) → position ends line ≡ Some k → k < length line
within_line [] k e = absurd cc
within_line (x ∷ xs) k e = by (ends x) refl (sym (position_cons ends x xs) ∙ e) (λ q h. within_line xs q h)
  where
    by : (b : Bool) → ends x ≡ b → cond (ends x) (Some 0) (option_map (λ k. k + 1) (position ends xs)) ≡ Some k → ((q : ℕ) → position ends xs ≡ Some q → q < length xs) → k < length (x ∷ xs)
    by true t h later =
        let here : Some 0 ≡ Some k = rw t at h in
        let zero_place : k ≡ 0 = cc in
        omega (arith, zero_place)
    by false t h later =
        let more = some_place (position ends xs) k (rw t at h) in
        omega (arith, more.2, later more.0 more.1)

-- ---- the loop over the parts

pub word_taken : (front : List (List ℕ)) (part : List ℕ) → nat_lt 0 (length part) ≡ true → front ++ some_word part ≡ front ++ part ∷ []
word_taken front part h = ap (λ b. front ++ cond b (part ∷ []) []) h

pub none_taken : (front : List (List ℕ)) (part : List ℕ) → nat_lt 0 (length part) ≡ false → front ++ some_word part ≡ front ++ []
none_taken front part h = ap (λ b. front ++ cond b (part ∷ []) []) h
