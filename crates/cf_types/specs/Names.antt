-- The bytes of a name.
use Rattle.std.specs.Prelude.{ℕ, List, box_value}
use Rattle.cf_types.specs.declared.name.NameBytes.{NameBytes}
use Rattle.cf_types.specs.declared.name.NameBytes.TheVariants.{Long, Short}

-- those of a short name, or of a long one
unfoldable pub bytes_of : NameBytes → List ℕ
bytes_of (Short bytes) = bytes
bytes_of (Long bytes) = (box_value bytes).items
