-- Paths of prefixes in one text.
use Rattle.std.proofs.Common.{◌≡◌, ℕ, ◌≤◌, Some, List, [], ◌∷◌, take, drop, map, refl, ap, sym, ◌∙◌, arith}
use Rattle.std.proofs.lemmas.List.{take-take}
use Rattle.config_rules.specs.Reading.{under_prefix}
use Rattle.cf_expand.specs.Paths.{AreNested, behind, end_of, path_at, top_of}
use Rattle.cf_expand.specs.declared.prefixes.PathSpan.{PathSpan}

-- what is nested within less is nested within more
pub nested_more : (n m : ℕ) (spans : List PathSpan) → n ≤ m → AreNested n spans → AreNested m spans
nested_more n m [] h nested = omega arith
nested_more n m (s ∷ spans) h nested = (nested.0, omega (arith, h, nested.1), nested.2)

-- the same front of the text has the same paths
pub same_paths : (old new : List ℕ) (n : ℕ) (spans : List PathSpan) → AreNested n spans → take n new ≡ take n old → map (path_at new) spans ≡ map (path_at old) spans
same_paths old new n [] nested same = refl
same_paths old new n (s ∷ spans) nested same =
    let here : take s.end new ≡ take s.end old = sym (take-take s.end n new nested.1) ∙ ap (take s.end) same ∙ take-take s.end n old nested.1 in
    ap (λ (text : List ℕ). drop s.start text ∷ map (path_at new) spans) here ∙ ap (λ ps. path_at old s ∷ ps) (same_paths old new s.end spans nested.2 here)

-- within a text that keeps the top one
pub nested_within : (n m : ℕ) (spans : List PathSpan) → AreNested n spans → end_of (top_of spans) ≤ m → AreNested m spans
nested_within n m [] nested h = omega arith
nested_within n m (s ∷ spans) nested h = (nested.0, h, nested.2)

-- without the top one
pub nested_rest : (n : ℕ) (spans : List PathSpan) → AreNested n spans → AreNested n (drop 1 spans)
nested_rest n [] nested = nested
nested_rest n (s ∷ spans) nested = nested_more s.end n spans nested.1 nested.2

-- with one more on top
pub nested_push : (n m : ℕ) (spans : List PathSpan) (s : PathSpan) → AreNested n spans → s.start ≤ s.end → s.end ≤ m → end_of (top_of spans) ≤ s.end → AreNested m (s ∷ spans)
nested_push n m spans s nested begins ends behind_top = (begins, ends, nested_within n s.end spans nested behind_top)

pub paths_push : (old new : List ℕ) (n : ℕ) (spans : List PathSpan) (s : PathSpan) (path : List ℕ) → AreNested n spans → take (end_of (top_of spans)) new ≡ take (end_of (top_of spans)) old
    → path_at new s ≡ behind old (top_of spans) path → map (path_at new) (s ∷ spans) ≡ under_prefix (map (path_at old) spans) path ∷ map (path_at old) spans
paths_push old new n [] s path nested kept added = ap (λ p. p ∷ []) added
paths_push old new n (top ∷ spans) s path nested kept added =
    ap (λ p. p ∷ map (path_at new) (top ∷ spans)) added
    ∙ ap (λ (ps : List (List ℕ)). behind old (Some top) path ∷ ps) (same_paths old new top.end (top ∷ spans) (nested.0, le_itself top.end, nested.2) kept)
  where
    le_itself : (k : ℕ) → k ≤ k
    le_itself k = omega arith
