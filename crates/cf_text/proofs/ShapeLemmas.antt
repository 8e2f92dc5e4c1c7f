use Rattle.std.proofs.Common.{◌≡◌, ℕ, ◌<◌, ◌&&◌, List, [], ◌∷◌, length, get_or, drop, refl, arith}
use Rattle.std.specs.List.{list_all}
use Rattle.cf_text.specs.Shapes.{begins_name, continues_name, is_name}

-- a name by its first byte and the rest
pub is_name_parts : (cs : List ℕ) → 0 < length cs → is_name cs ≡ (begins_name (get_or cs 0 0) && list_all continues_name (drop 1 cs))
is_name_parts [] h = absurd (omega arith)
is_name_parts (c ∷ cs) h = refl
