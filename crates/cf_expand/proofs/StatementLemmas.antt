-- The first statement of some tokens.
use Rattle.std.proofs.Common.{◌≡◌, ℕ, ◌+◌, ◌≤◌, ◌==◌, suc, Bool, true, false, cond, not, List, [], ◌∷◌, length, take, drop, refl, ap, sym, ◌∙◌, arith}
use Rattle.std.specs.List.{before_first, after_first, onto_first, position_or_len}
use Rattle.std.proofs.lemmas.List.{drop-drop, length-drop}
use Rattle.cf_types.specs.declared.stmt.Token.{Token}
use Rattle.config_rules.specs.Cut.{is_stop, statements}
use Rattle.cf_expand.specs.Lines.{Parts}

statements_first : (t : Token) (ts : List Token) → statements (t ∷ ts) ≡ before_first is_stop (t ∷ ts) ∷ statements (after_first is_stop (t ∷ ts))
statements_first t [] = by_kind (is_stop t)
  where
    by_kind : (b : Bool) → cond b ([] ∷ []) (onto_first t []) ≡ take (cond (not b) (1 + 0) 0) (t ∷ []) ∷ statements (drop (cond (not b) (1 + 0) 0 + 1) (t ∷ []))
    by_kind true = refl
    by_kind false = refl
statements_first t (u ∷ us) = by_kind (is_stop t) (position_or_len is_stop (u ∷ us)) (statements_first u us)
  where
    by_kind : (b : Bool) (n : ℕ) → statements (u ∷ us) ≡ take n (u ∷ us) ∷ statements (drop (n + 1) (u ∷ us))
        → cond b ([] ∷ statements (u ∷ us)) (onto_first t (statements (u ∷ us))) ≡ take (cond (not b) (1 + n) 0) (t ∷ u ∷ us) ∷ statements (drop (cond (not b) (1 + n) 0 + 1) (t ∷ u ∷ us))
    by_kind true n e = refl
    by_kind false n e =
        let one : 1 + n ≡ suc n = omega arith in
        let two : 1 + n + 1 ≡ suc (n + 1) = omega arith in
        let front : take (1 + n) (t ∷ u ∷ us) ≡ t ∷ take n (u ∷ us) = ap (λ m. take m (t ∷ u ∷ us)) one in
        let behind : drop (1 + n + 1) (t ∷ u ∷ us) ≡ drop (n + 1) (u ∷ us) = ap (λ m. drop m (t ∷ u ∷ us)) two in
        ap (onto_first t) e ∙ sym (ap (λ xs. xs ∷ statements (drop (1 + n + 1) (t ∷ u ∷ us))) front ∙ ap (λ xs. (t ∷ take n (u ∷ us)) ∷ statements xs) behind)

pub stop_within : (ts : List Token) → position_or_len is_stop ts ≤ length ts
stop_within [] = omega arith
stop_within (t ∷ ts) = by_kind (is_stop t) (stop_within ts)
  where
    by_kind : (b : Bool) → position_or_len is_stop ts ≤ length ts → cond (not b) (1 + position_or_len is_stop ts) 0 ≤ length (t ∷ ts)
    by_kind true h = omega arith
    by_kind false h = omega arith

pub some_tokens : (ts : List Token) → false ≡ (length ts == 0) → 1 ≤ length ts
some_tokens [] h = absurd (cc h)
some_tokens (t ∷ ts) h = omega arith

-- the tokens up to the first stop, and what follows those from there on
pub parts_are : (tokens statement from rest : List Token) (n : ℕ) → 1 ≤ length tokens → n ≡ position_or_len is_stop tokens → statement ≡ take n tokens → from ≡ drop n tokens → rest ≡ drop 1 from → Parts tokens statement rest
parts_are [] statement from rest n some e front back tail = absurd (omega arith)
parts_are (t ∷ ts) statement from rest n some e front back tail =
    let first : statement ≡ before_first is_stop (t ∷ ts) = front ∙ ap (λ m. take m (t ∷ ts)) e in
    let second : rest ≡ after_first is_stop (t ∷ ts) = tail ∙ ap (drop 1) back ∙ drop-drop 1 n (t ∷ ts) ∙ ap (λ m. drop (m + 1) (t ∷ ts)) e in
    record {
      splits = statements_first t ts ∙ sym (ap (λ xs. xs ∷ statements rest) first ∙ ap (λ xs. before_first is_stop (t ∷ ts) ∷ statements xs) second);
      front = first;
      behind = second;
      shorter = omega (arith, ap length second, length-drop (position_or_len is_stop (t ∷ ts) + 1) (t ∷ ts));
    }
