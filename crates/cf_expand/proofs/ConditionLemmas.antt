-- A word that begins with neither `e` nor `i` is no condition word.
use Rattle.std.proofs.Common.{◌≡◌, ℕ, ◌&&◌, ◌==◌, Bool, true, false, cond, Option, Some, None, List, [], ◌∷◌, refl, ap, ◌∙◌}
use Rattle.std.specs.Prelude.{bytes_eq, codes, find, slice_index}
use Rattle.std.proofs.Math.Bool.{and-false}
use Rattle.cf_types.specs.declared.keyword.TheConstants.{CONDITION_WORDS}
use Rattle.cf_types.specs.declared.stmt.CondWord.{CondWord}
use Rattle.cf_types.specs.declared.stmt.CondWord.TheVariants.{IfDef, IfNDef, ElifDef, ElifNDef, Else, EndIf}
use Rattle.cf_types.specs.declared.stmt.Piece.{Piece}
use Rattle.config_rules.specs.Form.{condition_spelling, is_chunk, is_word}

is_not : (chunk : Bool) (text : List ℕ) (first : ℕ) (rest : List ℕ) → (slice_index text 0 == first) ≡ false → (chunk && bytes_eq text (first ∷ rest)) ≡ false
is_not chunk [] first rest h = and-false chunk
is_not chunk (c ∷ cs) first rest h = ap (λ b. chunk && (b && bytes_eq cs rest)) h ∙ and-false chunk

none_first : (b : Bool) (x : CondWord) (o : Option CondWord) → b ≡ false → None ≡ o → None ≡ cond b (Some x) o
none_first true x o h rest = absurd (cc)
none_first false x o h rest = rest

pub no_condition : (p : Piece) → (slice_index p.text 0 == 101) ≡ false → (slice_index p.text 0 == 105) ≡ false → None ≡ find (λ condition. is_word (condition_spelling condition) p) CONDITION_WORDS
no_condition p e i =
    none_first _ IfDef _ (is_not (is_chunk p) p.text 105 (codes "fdef") i)
    (none_first _ IfNDef _ (is_not (is_chunk p) p.text 105 (codes "fndef") i)
    (none_first _ ElifDef _ (is_not (is_chunk p) p.text 101 (codes "lifdef") e)
    (none_first _ ElifNDef _ (is_not (is_chunk p) p.text 101 (codes "lifndef") e)
    (none_first _ Else _ (is_not (is_chunk p) p.text 101 (codes "lse") e)
    (none_first _ EndIf _ (is_not (is_chunk p) p.text 101 (codes "ndif") e) refl)))))
