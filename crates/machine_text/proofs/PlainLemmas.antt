-- A text whose bytes are all plain has no bad line.
use Rattle.std.proofs.Common.{◌≡◌, ℕ, zero, suc, ◌+◌, ◌&&◌, ◌||◌, Bool, true, false, not, cond, List, [], ◌∷◌, take, refl, ap, sym, ◌∙◌, None}
use Rattle.std.specs.Prelude.{◌==◌}
use Rattle.std.specs.List.{list_all, list_any, onto_first, position_or_len, slice_split}
use Rattle.cf_types.specs.Lines.{lines_of}
use Rattle.config_rules.specs.MachineText.{bad_line, is_allowed}
use Rattle.machine_text.proofs.TextLemmas.{bad_from, bad_later}

abbrev pub is_plain : ℕ → Bool
is_plain c = c == 10 || is_allowed c

both : (a b : Bool) → a ≡ true → b ≡ true → (a && b) ≡ true
both true true h k = refl
both true false h k = absurd (cc)
both false b h k = absurd (cc)

and_left : (a b : Bool) → (a && b) ≡ true → a ≡ true
and_left true b h = refl
and_left false b h = absurd (cc)

and_right : (a b : Bool) → (a && b) ≡ true → b ≡ true
and_right true b h = h
and_right false b h = absurd (cc)

-- a byte more of the first line
more_first : (x : ℕ) (lines : List (List ℕ)) → is_allowed x ≡ true → list_all (list_all is_allowed) lines ≡ true → list_all (list_all is_allowed) (onto_first x lines) ≡ true
more_first x [] a h = both (is_allowed x && true) true (both (is_allowed x) true a refl) refl
more_first x (line ∷ lines) a h =
    both (is_allowed x && list_all is_allowed line) (list_all (list_all is_allowed) lines)
    (both (is_allowed x) (list_all is_allowed line) a (and_left (list_all is_allowed line) (list_all (list_all is_allowed) lines) h))
    (and_right (list_all is_allowed line) (list_all (list_all is_allowed) lines) h)

-- plain bytes stand in lines of allowed ones
lines_allowed : (text : List ℕ) → list_all is_plain text ≡ true → list_all (list_all is_allowed) (slice_split (λ c. c == 10) text) ≡ true
lines_allowed [] h = refl
lines_allowed (x ∷ text) h = by_end (lines_allowed text (and_right (is_plain x) (list_all is_plain text) h)) (x == 10) refl
  where
    by_end : list_all (list_all is_allowed) (slice_split (λ c. c == 10) text) ≡ true → (b : Bool) → (x == 10) ≡ b → list_all (list_all is_allowed) (cond (x == 10) ([] ∷ slice_split (λ c. c == 10) text) (onto_first x (slice_split (λ c. c == 10) text))) ≡ true
    by_end more true e = ap (λ b. list_all (list_all is_allowed) (cond b ([] ∷ slice_split (λ c. c == 10) text) (onto_first x (slice_split (λ c. c == 10) text)))) e ∙ more
    by_end more false e =
        ap (λ b. list_all (list_all is_allowed) (cond b ([] ∷ slice_split (λ c. c == 10) text) (onto_first x (slice_split (λ c. c == 10) text)))) e
        ∙ more_first x (slice_split (λ c. c == 10) text) (ap (λ b. b || is_allowed x) (sym e) ∙ and_left (is_plain x) (list_all is_plain text) h) more

none_bad : (n : ℕ) (line : List ℕ) → list_all is_allowed line ≡ true → list_any (λ c. not (is_allowed c)) (take n line) ≡ false
none_bad zero line h = refl
none_bad (suc n) [] h = refl
none_bad (suc n) (x ∷ line) h =
    ap (λ b. not b || list_any (λ c. not (is_allowed c)) (take n line)) (and_left (is_allowed x) (list_all is_allowed line) h)
    ∙ none_bad n line (and_right (is_allowed x) (list_all is_allowed line) h)

none_from : (n : ℕ) (lines : List (List ℕ)) → list_all (list_all is_allowed) lines ≡ true → bad_from n lines ≡ None
none_from n [] h = refl
none_from n (line ∷ lines) h =
    sym (bad_later n line {more = lines} refl (none_bad (position_or_len (λ c. c == 35) line) line (and_left (list_all is_allowed line) (list_all (list_all is_allowed) lines) h)))
    ∙ none_from (n + 1) lines (and_right (list_all is_allowed line) (list_all (list_all is_allowed) lines) h)

pub no_bad_line : (text : List ℕ) → list_all is_plain text ≡ true → None ≡ bad_line text
no_bad_line text h = sym (none_from 1 (lines_of text) (lines_allowed text h))
