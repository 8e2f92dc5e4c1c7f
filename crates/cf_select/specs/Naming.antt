-- Which statement a negation's key stands for, and the instances by the keys that name them.
use Rattle.std.specs.Prelude.{◌≡◌, ℕ, ◌<◌, Bool, true, false, not, ◌&&◌, List, Option, Some, None, length, slice_get}
use Rattle.std.specs.List.{slice_index_or}
use Rattle.std.specs.Option.{option_map_or}
use Rattle.std.specs.HashMap.{HashMap}
use Rattle.cf_types.specs.declared.stmt.AtSpec.{AtSpec}
use Rattle.cf_types.specs.declared.stmt.AtSpec.TheVariants as written
use Rattle.cf_types.specs.declared.stmt.Stmt.{Stmt}
use Rattle.cf_types.specs.declared.stmt.Stmt.TheVariants as stmt
use Rattle.cf_types.specs.declared.stmt.UnitMark.{UnitMark}
use Rattle.cf_types.specs.declared.stmt.UnitMark.TheVariants.{Fixed, Star}
use Rattle.config_rules.specs.Select.{names}
use Rattle.cf_select.specs.contracts.named.NamedPartialEq.TheImpl as block
use Rattle.cf_select.specs.Places.{holds}
use Rattle.cf_select.specs.Selected.{is_negation, names_one}
use Rattle.cf_select.specs.declared.named.Attachment.{Attachment}
use Rattle.cf_select.specs.declared.named.Attachment.TheVariants as attached
use Rattle.cf_select.specs.declared.named.Named.{Named}
use Rattle.cf_select.specs.declared.named.Named.TheVariants as named

-- starred, or the unit
abbrev pub mark_of : Option ℕ → UnitMark
mark_of None = Star
mark_of (Some unit) = Fixed unit

abbrev pub at_of : Attachment → AtSpec
at_of attached.Root = written.Root
at_of (attached.Named base unit) = written.Named base.now unit

-- the negation
abbrev pub negation_of : Named → Stmt
negation_of (named.Unit base unit) = stmt.NoInst base.now (mark_of unit) None
negation_of (named.UnitAt base unit at) = stmt.NoInst base.now (mark_of unit) (Some (at_of at))
negation_of (named.At at) = stmt.NoDevice (at_of at)

-- the negation names the statement at this place
abbrev pub names_at : List Stmt → Named → ℕ → Bool
names_at stmts key place = option_map_or (names (negation_of key)) (slice_get stmts place) false

-- the place is among those of a key
abbrev pub is_listed : {S : Type 0} → HashMap Named (List ℕ) S → Named → ℕ → Bool
is_listed lists key place = holds block.ghosts.eq lists key place

-- each place in the lists has a mark
abbrev pub AreShort : {S : Type 0} → HashMap Named (List ℕ) S → List Bool → Type 0
AreShort lists free = (q : Named) (x : ℕ) → is_listed lists q x ≡ true → x < length free

-- of those that are free, exactly those that a key names are in its list
abbrev pub AreListed : {S : Type 0} → (Named → ℕ → Bool) → HashMap Named (List ℕ) S → List Bool → Type 0
AreListed named_by lists free = (q : Named) (x : ℕ) → slice_index_or free x false ≡ true → is_listed lists q x ≡ named_by q x

-- the flag tells that a statement is a negation that takes back nothing
abbrev pub TellsIdle : {S : Type 0} → Stmt → HashMap Named (List ℕ) S → List Bool → Bool → Type 0
TellsIdle s lists free idle = (stmts : List Stmt) → length free ≡ length stmts → AreListed (names_at stmts) lists free → idle ≡ (is_negation s && not (names_one s stmts free))

-- those that are named are no longer free, and the flag tells whether one was
pub record TakesBack (test : ℕ → Bool) (free free_new : List Bool) (found : Bool) : Type 0 where
  pub left : (x : ℕ) → slice_index_or free_new x false ≡ (slice_index_or free x false && not (test x))
  pub some : found ≡ true → (x : ℕ) × (slice_index_or free x false ≡ true) × (test x ≡ true)
  pub none : found ≡ false → (x : ℕ) → slice_index_or free x false ≡ true → test x ≡ false
