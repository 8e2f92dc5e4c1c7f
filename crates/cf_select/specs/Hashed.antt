-- What a key of negations feeds to a hash: each name as one piece, and each unit as a number.
use Rattle.std.specs.Prelude.{ℕ, ◌∷◌, ◌++◌, Option, Some, None}
use Rattle.std.specs.Hash as fed
use Rattle.std.specs.Hash.{HashWrites}
use Rattle.cf_select.specs.declared.named.Attachment.{Attachment}
use Rattle.cf_select.specs.declared.named.Attachment.TheVariants as attached
use Rattle.cf_select.specs.declared.named.Named.{Named}
use Rattle.cf_select.specs.declared.named.Named.TheVariants as named

-- a unit; where there is none, a number that is no unit
abbrev pub unit_number : Option ℕ → ℕ
unit_number None = 4294967295
unit_number (Some unit) = unit

abbrev pub attachment_input : Attachment → HashWrites
attachment_input attached.Root = fed.u8 0
attachment_input (attached.Named base unit) = base.now ∷ fed.u32 (unit_number unit)

abbrev pub key_input : Named → HashWrites
key_input (named.Unit base unit) = base.now ∷ fed.u32 (unit_number unit)
key_input (named.UnitAt base unit at) = (base.now ∷ fed.u32 (unit_number unit)) ++ attachment_input at
key_input (named.At at) = attachment_input at
