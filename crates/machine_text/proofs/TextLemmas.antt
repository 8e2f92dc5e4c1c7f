-- One more line of a machine file, and one more word of a line.
use Rattle.std.proofs.Common.{◌≡◌, ℕ, suc, ◌+◌, ◌<◌, ◌≤◌, Bool, true, false, cond, List, [], ◌∷◌, ◌++◌, length, drop, ap, sym, ◌∙◌, arith, Option, Some, None, append_assoc}
use Rattle.std.specs.Prelude.{MatchOption, filter, find, nat_lt, option_map, ◌==◌}
use Rattle.std.specs.Borrow.{Bor}
use Rattle.std.specs.Option.{option_map_or}
use Rattle.std.specs.List.{enumerate_from}
use Rattle.std.proofs.lemmas.List.{drop_all, drop_more, length_push}
use Rattle.std.proofs.lemmas.Iterator.{YieldsList}
use Rattle.std.proofs.lemmas.Iterator.Consumers.{YieldsList-turn, YieldsList-end}
use Rattle.std.specs.Iterator.{Yields}
use Rattle.std.proofs.lemmas.Bool.Decides.{nat_tests}
use Rattle.std.proofs.lemmas.List.Splits.{length-slice_split}
use Rattle.std.proofs.lemmas.List.Sums.{count_by-le-length}
use Rattle.cf_types.specs.Lines.{lines_of}
use Rattle.config_rules.specs.MachineText.{has_bad_byte}
use Rattle.machine_text.specs.Words.{IsFirstLine}

-- ---- what is left in a loop over a list, at its next value and at its end

module _ {S A B : Type 0} {steps : S → Option A → S → Type 0} {v : A → B} {s : S} {all : List B} (road : YieldsList steps v s all) (xs : List A) (t : S) (y : Yields steps s xs t) where
  pub left_at : (r : Option A) (u : S) (x : A) → r ≡ Some x → steps t r u → drop (length xs) all ≡ v x ∷ drop (length (xs ++ x ∷ [])) all
  left_at r u x is p =
      let turn = YieldsList-turn road xs t y r u x is p in
      drop_more all (length xs) (v x) turn.0 ∙ ap (λ z. z ∷ drop (length xs + 1) all) (sym turn.1) ∙ ap (λ n. v x ∷ drop n all) (sym (length_push xs x))

  pub left_none : (r : Option A) (u : S) → r ≡ None → steps t r u → drop (length xs) all ≡ []
  left_none r u is p = let ends = (YieldsList-end road xs t y r u is p).1 in drop_all (length xs) all (omega (arith, ends))

-- all lines with their newlines are one byte longer than the text, so there are few of them
pub lines_few : (text : List ℕ) → length (lines_of text) ≤ length text + 1
lines_few text = omega (arith, length-slice_split (λ b. b == 10) text, count_by-le-length (λ b. b == 10) text)

-- ---- the first bad line

abbrev pub bad_from : ℕ → List (List ℕ) → Option ℕ
bad_from n lines = option_map (λ e. e.0) (find (λ e. has_bad_byte e.1) (enumerate_from n lines))

bad_if : (b : Bool) (n : ℕ) (line : List ℕ) (more : Option (ℕ × List ℕ)) → has_bad_byte line ≡ b → option_map (λ e. e.0) (cond (has_bad_byte line) (Some (n, line)) more) ≡ cond b (Some n) (option_map (λ e. e.0) more)
bad_if true n line more h = ap (λ b. option_map (λ e. e.0) (cond b (Some (n, line)) more)) h
bad_if false n line more h = ap (λ b. option_map (λ e. e.0) (cond b (Some (n, line)) more)) h

pub bad_here : (n : ℕ) (line : List ℕ) {lines more : List (List ℕ)} → lines ≡ line ∷ more → has_bad_byte line ≡ true → bad_from n lines ≡ Some n
bad_here n line is h = ap (bad_from n) is ∙ bad_if true n line _ h

pub bad_later : (n : ℕ) (line : List ℕ) {lines more : List (List ℕ)} → lines ≡ line ∷ more → has_bad_byte line ≡ false → bad_from (n + 1) more ≡ bad_from n lines
bad_later n line is h = sym (ap (bad_from n) is ∙ bad_if false n line _ h)

-- ---- the words of a line

part_if : (parts front : List (List ℕ)) (word : List ℕ) (some : Bool) → nat_lt 0 (length word) ≡ some
    → cond some (front ++ word ∷ []) front ++ filter (λ w. nat_lt 0 (length w)) parts ≡ front ++ filter (λ w. nat_lt 0 (length w)) (word ∷ parts)
part_if parts front word true h = append_assoc front (word ∷ []) _ ∙ ap (λ b. front ++ cond b (word ∷ filter (λ w. nat_lt 0 (length w)) parts) (filter (λ w. nat_lt 0 (length w)) parts)) (sym h)
part_if parts front word false h = ap (λ b. front ++ cond b (word ∷ filter (λ w. nat_lt 0 (length w)) parts) (filter (λ w. nat_lt 0 (length w)) parts)) (sym h)

pub part_here : (front : List (List ℕ)) (word : List ℕ) (some : Bool) {parts more : List (List ℕ)} → parts ≡ word ∷ more → nat_lt 0 (length word) ≡ some
    → cond some (front ++ word ∷ []) front ++ filter (λ w. nat_lt 0 (length w)) more ≡ front ++ filter (λ w. nat_lt 0 (length w)) parts
part_here front word some {more = more} left h = part_if more front word some h ∙ ap (λ ps. front ++ filter (λ w. nat_lt 0 (length w)) ps) (sym left)

pub not_empty : (word : List ℕ) → (length word == 0) ≡ false → nat_lt 0 (length word) ≡ true
not_empty word h = grind (arith, nat_tests)

pub empty_word : (word : List ℕ) → (length word == 0) ≡ true → nat_lt 0 (length word) ≡ false
empty_word word h = grind (arith, nat_tests)

-- ---- the lines behind the first one

pub lines_left : (text line : List ℕ) (rest : Option (Bor (List ℕ))) → MatchOption rest (lines_of text ≡ line ∷ []) (λ rest. IsFirstLine text line rest.now)
    → lines_of text ≡ line ∷ option_map_or (λ rest. lines_of rest.now) rest []
lines_left text line None is = is
lines_left text line (Some rest) is = is.lines

pub fewer_left : (text line : List ℕ) (rest : Option (Bor (List ℕ))) → MatchOption rest (lines_of text ≡ line ∷ []) (λ rest. IsFirstLine text line rest.now)
    → option_map_or (λ rest. suc (length rest.now)) rest 0 < suc (length text)
fewer_left text line None is = omega arith
fewer_left text line (Some rest) is = omega (arith, is.shorter)
