-- The first line of a text and the others.
use Rattle.std.proofs.Common.{◌≡◌, ◌<◌, ◌+◌, ◌==◌, ℕ, suc, Bool, true, false, cond, List, [], ◌∷◌, length, take, drop, Option, Some, None, refl, sym, ap, ◌∙◌, arith, add-one, length-drop}
use Rattle.std.specs.Prelude.{nat_lt, position, option_map}
use Rattle.std.specs.List.{onto_first, position_or_len}
use Rattle.std.proofs.lemmas.Bool.{false_from_ne_true}
use Rattle.std.proofs.lemmas.Bool.Decides.{nat_tests}
use Rattle.std.proofs.lemmas.List.Sums.{position_or_len_is}
use Rattle.memchr.specs.Find.{IsFirstByte, is_byte}
use Rattle.cf_types.proofs.PlaceLemmas.{position_cons}
use Rattle.cf_types.specs.Lines.{lines_of}
use Rattle.run_rules.specs.Reread.{history_lines, without_empty_last}
use Rattle.history_replay.specs.Lines.{IsCut}
use Rattle.replay_laws.proofs.Cuts.{counts}

some_place : (o : Option ℕ) (p : ℕ) → option_map (λ k. k + 1) o ≡ Some p → (q : ℕ) × (o ≡ Some q) × (p ≡ suc q)
some_place None p e = absurd cc
some_place (Some q) p e = let same : q + 1 ≡ p = cc in (q, refl, omega (arith, same))

some_none : (p : ℕ) → Some p ≡ None → ⊥
some_none p e = cc

-- up to the first newline
abbrev CutAt : List ℕ → ℕ → Type 0
CutAt text p = lines_of text ≡ take p text ∷ lines_of (drop (suc p) text)

pieces_at : (text : List ℕ) (p : ℕ) → position (λ b. b == 10) text ≡ Some p → CutAt text p
pieces_at [] p e = absurd cc
pieces_at (b ∷ bs) p e = by (b == 10) refl (sym (position_cons (λ b. b == 10) b bs) ∙ e) (λ q h. pieces_at bs q h)
  where
    by : (c : Bool) → (b == 10) ≡ c → cond (b == 10) (Some 0) (option_map (λ k. k + 1) (position (λ b. b == 10) bs)) ≡ Some p
        → ((q : ℕ) → position (λ b. b == 10) bs ≡ Some q → CutAt bs q) → CutAt (b ∷ bs) p
    by true t h later =
        let here : Some 0 ≡ Some p = rw t at h in
        let zero_place : p ≡ 0 = cc in
        rw (t, zero_place) refl
    by false t h later =
        let more = some_place (position (λ b. b == 10) bs) p (rw t at h) in
        rw (t, more.2) (ap (onto_first b) (later more.0 more.1))

-- without a newline
no_place : (o : Option ℕ) → option_map (λ k. k + 1) o ≡ None → o ≡ None
no_place None e = refl
no_place (Some q) e = absurd cc

pieces_whole : (text : List ℕ) → position (λ b. b == 10) text ≡ None → lines_of text ≡ text ∷ []
pieces_whole [] e = refl
pieces_whole (b ∷ bs) e = by (b == 10) refl (sym (position_cons (λ b. b == 10) b bs) ∙ e) (λ h. pieces_whole bs h)
  where
    by : (c : Bool) → (b == 10) ≡ c → cond (b == 10) (Some 0) (option_map (λ k. k + 1) (position (λ b. b == 10) bs)) ≡ None
        → (position (λ b. b == 10) bs ≡ None → lines_of bs ≡ bs ∷ []) → lines_of (b ∷ bs) ≡ (b ∷ bs) ∷ []
    by true t h later = absurd (some_none 0 (rw t at h))
    by false t h later = rw t (ap (onto_first b) (later (no_place (position (λ b. b == 10) bs) (rw t at h))))

-- ---- lines

pub lines_at : (text : List ℕ) (p : ℕ) → position (λ b. b == 10) text ≡ Some p → history_lines text ≡ take p text ∷ history_lines (drop (p + 1) text)
lines_at text p e = rw add-one (ap without_empty_last (pieces_at text p e) ∙ counts (take p text) (drop (suc p) text))

pub lines_whole : (text : List ℕ) → 0 < length text → position (λ b. b == 10) text ≡ None → history_lines text ≡ text ∷ history_lines []
lines_whole [] some e = absurd (omega (arith, some))
lines_whole (b ∷ bs) some e = ap without_empty_last (pieces_whole (b ∷ bs) e)

-- a place at which something passes is within the list
pub place_within : (text : List ℕ) (p : ℕ) → position (λ b. b == 10) text ≡ Some p → p < length text
place_within [] p e = absurd cc
place_within (b ∷ bs) p e = by (b == 10) refl (sym (position_cons (λ b. b == 10) b bs) ∙ e) (λ q h. place_within bs q h)
  where
    by : (c : Bool) → (b == 10) ≡ c → cond (b == 10) (Some 0) (option_map (λ k. k + 1) (position (λ b. b == 10) bs)) ≡ Some p → ((q : ℕ) → position (λ b. b == 10) bs ≡ Some q → q < length bs) → p < length (b ∷ bs)
    by true t h later =
        let here : Some 0 ≡ Some p = rw t at h in
        let zero_place : p ≡ 0 = cc in
        omega (arith, zero_place)
    by false t h later =
        let more = some_place (position (λ b. b == 10) bs) p (rw t at h) in
        omega (arith, more.2, later more.0 more.1)

-- the line up to a newline, and the text behind it
pub cut_there : (text line rest : List ℕ) (p : ℕ) → position (λ b. b == 10) text ≡ Some p → line ≡ take p text → rest ≡ drop (p + 1) text → IsCut text line rest
cut_there text line rest p at is more = record {
  lines = lines_at text p at ∙ ap (λ (l : List ℕ). l ∷ history_lines (drop (p + 1) text)) (sym is) ∙ ap (λ (r : List ℕ). line ∷ history_lines r) (sym more);
  shorter = omega (arith, ap length more, length-drop (p + 1) text, place_within text p at);
}

-- the last line, without a newline
pub cut_whole : (text rest : List ℕ) → 0 < length text → position (λ b. b == 10) text ≡ None → rest ≡ [] → IsCut text text rest
cut_whole text rest some none nothing = record {
  lines = lines_whole text some none ∙ ap (λ (r : List ℕ). text ∷ history_lines r) (sym nothing);
  shorter = omega (arith, ap length nothing);
}

pub some_left : (text : List ℕ) → (length text == 0) ≡ false → 0 < length text
some_left [] h = absurd cc
some_left (b ∷ bs) h = omega arith

-- ---- the first newline

pub newline_is : (text : List ℕ) (r : Option ℕ) → IsFirstByte (is_byte 10) text r → r ≡ position (λ b. b == 10) text
newline_is text None none =
    let all : position_or_len (λ b. b == 10) text ≡ length text =
    position_or_len_is (λ b. b == 10) text (length text) 0 (omega arith) (λ k lt. false_from_ne_true _ (none k (omega arith) lt)) (λ lt. absurd (omega (arith, lt))) in
    let past : nat_lt (length text) (length text) ≡ false = grind (arith, nat_tests) in
    rw (all, past) refl
newline_is text (Some k) first =
    let here : position_or_len (λ b. b == 10) text ≡ k =
    position_or_len_is (λ b. b == 10) text k 0 (omega (arith, first.0.high)) (λ j lt. false_from_ne_true _ (first.0.before j (omega arith) lt)) (λ lt. first.1) in
    let less = first.0.high in
    let within : nat_lt k (length text) ≡ true = grind (arith, nat_tests) in
    rw (here, within) refl
