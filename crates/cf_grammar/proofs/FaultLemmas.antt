-- Strings and sizes behind the names of locators, at one place after the other.
use Rattle.std.proofs.Common.{◌≡◌, ◌∙◌, ◌+◌, ◌<◌, ◌≤◌, ℕ, Bool, true, false, ◌||◌, ◌&&◌, List, [], ◌∷◌, length, get_or, map, take, drop, ◌-◌, refl, sym, ap, arith}
use Rattle.std.proofs.lemmas.List.{drop-drop}
use Rattle.std.proofs.Math.Bool.{or-false, and-false}
use Rattle.cf_types.specs.declared.stmt.Piece.{Piece}
use Rattle.config_rules.specs.Form.{has_named_text, has_text_or_size, is_left_out, is_text, may_name_locator}
use Rattle.cf_words.proofs.ListLemmas.{map_first_rest}
use Rattle.cf_grammar.specs.LeftOut.{begins_named_text, begins_text_or_size, is_left_out_statement}

named_here : (ps : List Piece) → has_named_text ps ≡ (begins_named_text ps || has_named_text (drop 1 ps))
named_here [] = refl
named_here (p ∷ []) = sym (or-false (may_name_locator p && false) ∙ and-false (may_name_locator p))
named_here (p ∷ q ∷ ps) = refl

sized_here : (ps : List Piece) → has_text_or_size ps ≡ (begins_text_or_size ps || has_text_or_size (drop 1 ps))
sized_here [] = refl
sized_here (p ∷ []) = sym (or-false (may_name_locator p && false) ∙ and-false (may_name_locator p))
sized_here (p ∷ q ∷ []) = refl
sized_here (p ∷ q ∷ r ∷ ps) = rw (or-false (is_text r)) refl

-- a test of a list that holds where it holds at the beginning, or of the rest
at_place : (here : List Piece → Bool) (has : List Piece → Bool) → ((ps : List Piece) → has ps ≡ (here ps || has (drop 1 ps)))
    → (ps : List Piece) (i : ℕ) → has (drop i ps) ≡ (here (drop i ps) || has (drop (i + 1) ps))
at_place here has step ps i = step (drop i ps) ∙ ap (λ qs. here (drop i ps) || has qs) (drop-drop 1 i ps)

pub named_at : (ps : List Piece) (i : ℕ) → has_named_text (drop i ps) ≡ (begins_named_text (drop i ps) || has_named_text (drop (i + 1) ps))
named_at = at_place begins_named_text has_named_text named_here

pub sized_at : (ps : List Piece) (i : ℕ) → has_text_or_size (drop i ps) ≡ (begins_text_or_size (drop i ps) || has_text_or_size (drop (i + 1) ps))
sized_at = at_place begins_text_or_size has_text_or_size sized_here

pub named_found : (ps : List Piece) (i : ℕ) → true ≡ begins_named_text (drop i ps) → true ≡ has_named_text (drop i ps)
named_found ps i h = rw (named_at ps i, ← h) refl

pub named_later : (ps : List Piece) (i : ℕ) → false ≡ begins_named_text (drop i ps) → has_named_text (drop (i + 1) ps) ≡ has_named_text (drop i ps)
named_later ps i h = rw (named_at ps i, ← h) refl

pub sized_found : (ps : List Piece) (i : ℕ) → true ≡ begins_text_or_size (drop i ps) → true ≡ has_text_or_size (drop i ps)
sized_found ps i h = rw (sized_at ps i, ← h) refl

pub sized_later : (ps : List Piece) (i : ℕ) → false ≡ begins_text_or_size (drop i ps) → has_text_or_size (drop (i + 1) ps) ≡ has_text_or_size (drop i ps)
sized_later ps i h = rw (sized_at ps i, ← h) refl

left_out_cons : (p : Piece) (ps : List Piece) → is_left_out_statement p ps ≡ is_left_out (p ∷ ps)
unfolding is_left_out
left_out_cons p ps = refl

pub left_out_words : {X : Type 0} (f : X → Piece) (xs : List X) (d : X) → 1 ≤ length xs → is_left_out_statement (f (get_or xs 0 d)) (map f (take (length xs - 1) (drop 1 xs))) ≡ is_left_out (map f xs)
left_out_words f xs d h = left_out_cons (f (get_or xs 0 d)) (map f (take (length xs - 1) (drop 1 xs))) ∙ ap is_left_out (map_first_rest f xs d h)

pub left_out_none : {X : Type 0} (f : X → Piece) (xs : List X) → length xs < 1 → false ≡ is_left_out (map f xs)
unfolding is_left_out
left_out_none f [] h = refl
left_out_none f (x ∷ xs) h = absurd (omega arith)
