-- An instance has three tokens or more.
use Rattle.std.proofs.Common.{◌≡◌, ◌<◌, Bool, None, List, [], ◌∷◌, length, refl, arith}
use Rattle.cf_types.specs.declared.stmt.Piece.{Piece}
use Rattle.config_rules.specs.Form.{inst_stmt}

pub instance_short : (sized : Bool) (ps : List Piece) → length ps < 3 → None ≡ inst_stmt sized ps
instance_short sized [] h = refl
instance_short sized (p ∷ []) h = refl
instance_short sized (p ∷ q ∷ []) h = refl
instance_short sized (p ∷ q ∷ r ∷ ps) h = absurd (omega arith)
