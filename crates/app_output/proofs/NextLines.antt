-- Which line was put.
use Rattle.std.proofs.Common.{◌≡◌, ℕ, ◌<◌, ◌≤◌, zero, suc, subst, Bool, true, false, Option, Some, None, List, [], ◌∷◌, length, get_or, refl, sym, ◌∙◌, arith}
use Rattle.std.specs.Prelude.{slice_get}
use Rattle.std.proofs.lemmas.Bool.{false≢true}
use Rattle.std.proofs.lemmas.Option.{slice_get_within, get_or_from_slice_get}
use Rattle.ioconf_text.specs.Seeking.{PutsLine}

past_end : {X : Type 0} (xs : List X) (n : ℕ) → slice_get xs n ≡ None → length xs ≤ n
past_end [] n e = omega arith
past_end (x ∷ xs) zero e = cc
past_end (x ∷ xs) (suc n) e = let h : length xs ≤ n = past_end xs n e in omega arith

line_at : (lines : List (List ℕ)) (n : ℕ) (line : List ℕ) (o : Option (List ℕ)) → slice_get lines n ≡ o → PutsLine o true [] line → (n < length lines) × (line ≡ get_or lines n [])
line_at lines n line None e h = absurd (false≢true (sym h.0))
line_at lines n line (Some there) e h = (slice_get_within lines n there e, h.1 ∙ sym (get_or_from_slice_get lines n there [] e))

-- where a line was put, it is the one at that place
pub line_there : (lines : List (List ℕ)) (n : ℕ) (more : Bool) (old line : List ℕ) → more ≡ true → old ≡ [] → PutsLine (slice_get lines n) more old line → (n < length lines) × (line ≡ get_or lines n [])
line_there lines n more old line m e h =
    line_at lines n line (slice_get lines n) refl (subst (λ v. PutsLine (slice_get lines n) v [] line) m (subst (λ (bytes : List ℕ). PutsLine (slice_get lines n) more bytes line) e h))

no_line_at : (lines : List (List ℕ)) (n : ℕ) (old line : List ℕ) (o : Option (List ℕ)) → slice_get lines n ≡ o → PutsLine o false old line → length lines ≤ n
no_line_at lines n old line None e h = past_end lines n e
no_line_at lines n old line (Some there) e h = absurd (false≢true h.0)

-- where none was put, there is none
pub no_line : (lines : List (List ℕ)) (n : ℕ) (more : Bool) (old line : List ℕ) → more ≡ false → PutsLine (slice_get lines n) more old line → length lines ≤ n
no_line lines n more old line m h = no_line_at lines n old line (slice_get lines n) refl (subst (λ v. PutsLine (slice_get lines n) v old line) m h)
