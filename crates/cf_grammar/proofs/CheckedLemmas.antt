-- Statements that are checked, and pseudo-devices.
use Rattle.std.proofs.Common.{◌≡◌, ◌<◌, true, Bool, None, List, [], ◌∷◌, length, refl}
use Rattle.cf_types.specs.declared.stmt.Piece.{Piece}
use Rattle.std.specs.Prelude.{nat_lt}
use Rattle.std.specs.List.{list_all}
use Rattle.std.proofs.lemmas.Bool.{lt-ltb}
use Rattle.config_rules.specs.Form.{are_chunks, is_chunk, pseudo_stmt}

pub pseudo_other : (sized : Bool) (ps : List Piece) → (length ps ≡ 1 → ⊥) → (length ps ≡ 2 → ⊥) → None ≡ pseudo_stmt sized ps
pseudo_other sized [] a b = refl
pseudo_other sized (p ∷ []) a b = absurd (a refl)
pseudo_other sized (p ∷ q ∷ []) a b = absurd (b refl)
pseudo_other sized (p ∷ q ∷ r ∷ ps) a b = refl

pub some_chunks : (ps : List Piece) → 0 < length ps → list_all is_chunk ps ≡ are_chunks ps
some_chunks ps h = let some : nat_lt 0 (length ps) ≡ true = lt-ltb 0 (length ps) h in rw some refl
