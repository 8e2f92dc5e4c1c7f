-- Lists of tokens parted at a mark.
use Rattle.std.proofs.Common.{◌≡◌, ℕ, ◌+◌, ◌<◌, ◌≤◌, Some, None, List, [], ◌∷◌, length, drop, refl, ap, ◌∙◌, arith, true, false}
use Rattle.std.specs.List.{list_any, before_first, after_first, slice_split}
use Rattle.std.proofs.lemmas.List.{drop-drop, length-drop}
use Rattle.std.proofs.lemmas.List.Folds.{length-prefix_len}
use Rattle.std.specs.Prelude.{not}
use Rattle.cf_types.specs.declared.stmt.Piece.{Piece}
use Rattle.config_rules.specs.Form.{is_mark, parted_at}
use Rattle.cf_words.proofs.ListLemmas.{list_any_past, list_any_within, split_first}

-- nothing stands from the first of these marks on
pub parted_none : (mark : List ℕ) (ps from : List Piece) → from ≡ drop (length (before_first (is_mark mark) ps)) ps → length from < 1 → None ≡ parted_at mark ps
parted_none mark ps from is h =
    let none : list_any (is_mark mark) ps ≡ false =
    list_any_past (is_mark mark) ps (omega (arith, ap length is, length-drop (length (before_first (is_mark mark) ps)) ps, length-prefix_len (λ p. not (is_mark mark p)) ps)) in
    rw none refl

-- the mark and what is behind it
pub parted_some : (mark : List ℕ) (ps before from behind : List Piece) → before ≡ before_first (is_mark mark) ps → from ≡ drop (length (before_first (is_mark mark) ps)) ps → 1 ≤ length from
    → behind ≡ drop 1 from → Some (before, behind) ≡ parted_at mark ps
parted_some mark ps before from behind front is h tail =
    let some : list_any (is_mark mark) ps ≡ true =
    list_any_within (is_mark mark) ps (omega (arith, ap length is, length-drop (length (before_first (is_mark mark) ps)) ps, length-prefix_len (λ p. not (is_mark mark p)) ps)) in
    let rest : behind ≡ after_first (is_mark mark) ps =
    tail ∙ ap (drop 1) is ∙ drop-drop 1 (length (before_first (is_mark mark) ps)) ps ∙ ap (λ n. drop (n + 1) ps) (length-prefix_len (λ p. not (is_mark mark p)) ps) in
    rw (some, front, rest) refl

-- what is behind the first of these marks
pub after_first_is : (mark : List ℕ) (ps from : List Piece) → from ≡ drop (length (before_first (is_mark mark) ps)) ps → drop 1 from ≡ after_first (is_mark mark) ps
after_first_is mark ps from is =
    ap (drop 1) is ∙ drop-drop 1 (length (before_first (is_mark mark) ps)) ps ∙ ap (λ n. drop (n + 1) ps) (length-prefix_len (λ p. not (is_mark mark p)) ps)

-- the last part between marks
pub part_alone : (mark : List ℕ) (ps before from : List Piece) → before ≡ before_first (is_mark mark) ps → from ≡ drop (length (before_first (is_mark mark) ps)) ps → length from < 1 → slice_split (is_mark mark) ps ≡ before ∷ []
part_alone mark ps before from front is h =
    let none : list_any (is_mark mark) ps ≡ false =
    list_any_past (is_mark mark) ps (omega (arith, ap length is, length-drop (length (before_first (is_mark mark) ps)) ps, length-prefix_len (λ p. not (is_mark mark p)) ps)) in
    split_first (is_mark mark) ps ∙ rw (none, front) refl

-- a part and the others
pub part_before : (mark : List ℕ) (ps before from behind : List Piece) → before ≡ before_first (is_mark mark) ps → from ≡ drop (length (before_first (is_mark mark) ps)) ps → 1 ≤ length from → behind ≡ drop 1 from
    → slice_split (is_mark mark) ps ≡ before ∷ slice_split (is_mark mark) behind
part_before mark ps before from behind front is h tail =
    let some : list_any (is_mark mark) ps ≡ true =
    list_any_within (is_mark mark) ps (omega (arith, ap length is, length-drop (length (before_first (is_mark mark) ps)) ps, length-prefix_len (λ p. not (is_mark mark p)) ps)) in
    let rest : behind ≡ after_first (is_mark mark) ps = tail ∙ after_first_is mark ps from is in
    split_first (is_mark mark) ps ∙ rw (some, front, rest) refl
