use Rattle.std.proofs.Common.{◌≡◌, Bool, None, List, [], ◌∷◌, length, refl}
use Rattle.cf_types.specs.declared.stmt.Piece.{Piece}
use Rattle.config_rules.specs.Form.{locator_of}

-- a locator has 1, 3 or 5 tokens
pub locator_other : (sized : Bool) (ps : List Piece) → (length ps ≡ 1 → ⊥) → (length ps ≡ 3 → ⊥) → (length ps ≡ 5 → ⊥) → None ≡ locator_of sized ps
locator_other sized [] a b d = refl
locator_other sized (p ∷ []) a b d = absurd (a refl)
locator_other sized (p ∷ q ∷ []) a b d = refl
locator_other sized (p ∷ q ∷ r ∷ []) a b d = absurd (b refl)
locator_other sized (p ∷ q ∷ r ∷ s ∷ []) a b d = refl
locator_other sized (p ∷ q ∷ r ∷ s ∷ t ∷ []) a b d = absurd (d refl)
locator_other sized (p ∷ q ∷ r ∷ s ∷ t ∷ u ∷ ps) a b d = refl
