-- An option has one token or three.
use Rattle.std.proofs.Common.{◌≡◌, None, List, [], ◌∷◌, length, refl}
use Rattle.cf_types.specs.declared.stmt.Piece.{Piece}
use Rattle.config_rules.specs.Form.{option_item}

pub option_item_other : (ps : List Piece) → (length ps ≡ 1 → ⊥) → (length ps ≡ 3 → ⊥) → None ≡ option_item ps
option_item_other [] a b = refl
option_item_other (p ∷ []) a b = absurd (a refl)
option_item_other (p ∷ q ∷ []) a b = refl
option_item_other (p ∷ q ∷ r ∷ []) a b = absurd (b refl)
option_item_other (p ∷ q ∷ r ∷ s ∷ ps) a b = refl
