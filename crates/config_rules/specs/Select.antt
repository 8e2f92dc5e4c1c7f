-- Which instances and items stand: those that no later negation takes back, and the instances that are rooted.
-- Negations are those of config(5). What a negation names, and that orphans are dropped, is this project's profile.
use Rattle.std.specs.Prelude.{◌≡◌, ℕ, ◌<◌, Bool, true, false, not, ◌&&◌, ◌||◌, ◌==◌, List, [], ◌∷◌, ◌++◌, length, map, filter, slice_get, slice_index_or, bytes_eq, Option, Some}
use Rattle.std.specs.List.{list_any}
use Rattle.std.specs.Option.{option_map_or, option_eq}
use Rattle.cf_types.specs.declared.stmt.AtSpec.{AtSpec}
use Rattle.cf_types.specs.declared.stmt.AtSpec.TheVariants as written
use Rattle.cf_types.specs.declared.stmt.UnitMark.{UnitMark}
use Rattle.cf_types.specs.declared.stmt.UnitMark.TheVariants.{Fixed, Star}
use Rattle.cf_types.specs.declared.stmt.ItemKind.{ItemKind}
use Rattle.cf_types.specs.declared.stmt.ItemKind.TheVariants as of_kind
use Rattle.cf_types.specs.declared.stmt.Stmt.{Stmt}
use Rattle.cf_types.specs.declared.stmt.Stmt.TheVariants as stmt
use Rattle.cf_types.specs.declared.tables.ParentSpec.{ParentSpec}
use Rattle.cf_types.specs.declared.tables.Place.{Place}
use Rattle.cf_types.specs.declared.tables.Place.TheVariants.{Root, At}
use Rattle.config_rules.specs.Declared.{Declared}
use Rattle.cf_types.specs.Offers.{offers}
use Rattle.config_rules.specs.Fault.{is_instance}

-- ---- as written

-- the same unit, or both starred
abbrev pub same_mark : UnitMark → UnitMark → Bool
same_mark (Fixed u) (Fixed v) = u == v
same_mark Star Star = true
same_mark (Fixed u) Star = false
same_mark Star (Fixed v) = false

-- the same unit, or none on both sides
abbrev pub same_number : Option ℕ → Option ℕ → Bool
same_number a b = option_eq (λ x y. x == y) a b

-- the same attachment as it is written
abbrev pub same_at : AtSpec → AtSpec → Bool
same_at written.Root written.Root = true
same_at (written.Named a u) (written.Named b v) = bytes_eq a b && same_number u v
same_at written.Root (written.Named b v) = false
same_at (written.Named a u) written.Root = false

-- ---- instances

-- a negation names an instance
abbrev pub names : Stmt → Stmt → Bool
names (stmt.NoInst base mark at) (stmt.Inst b m x pairs flags) = (bytes_eq base b && same_mark mark m) && option_map_or (λ a. same_at a x) at true
names (stmt.NoDevice at) (stmt.Inst b m x pairs flags) = same_at at x
names _ _ = false

-- an instance that no later statement names
abbrev pub survives : Stmt → List Stmt → Bool
survives s later = is_instance s && not (list_any (λ n. names n s) later)

-- for each statement whether it is an instance that survives
unfoldable pub kept : List Stmt → List Bool
kept [] = []
kept (s ∷ later) = survives s later ∷ kept later

-- a negation takes back one of the statements before it: it names that one, and none between them does
unfoldable pub takes_back : Stmt → List Stmt → Bool
takes_back n [] = false
takes_back n (s ∷ between) = (names n s && not (list_any (λ m. names m s) between)) || takes_back n between

-- the same by places
pub record Survives (stmts : List Stmt) (i : ℕ) (s : Stmt) : Type 0 where
  pub here : slice_get stmts i ≡ Some s
  pub instance : is_instance s ≡ true
  pub not_named : (j : ℕ) (n : Stmt) → i < j → slice_get stmts j ≡ Some n → names n s ≡ false

-- behind these statements, a negation takes back the one at this place
pub record TakesBack (before : List Stmt) (n : Stmt) (i : ℕ) (s : Stmt) : Type 0 where
  pub here : slice_get before i ≡ Some s
  pub named : names n s ≡ true
  pub not_named : (j : ℕ) (m : Stmt) → i < j → slice_get before j ≡ Some m → names m s ≡ false

-- ---- items

-- the same kind of items
abbrev pub same_kind : ItemKind → ItemKind → Bool
same_kind of_kind.Options of_kind.Options = true
same_kind of_kind.MakeOptions of_kind.MakeOptions = true
same_kind of_kind.PseudoDevice of_kind.PseudoDevice = true
same_kind of_kind.FileSystem of_kind.FileSystem = true
same_kind _ _ = false

-- the name is among these
abbrev pub has_name : List (List ℕ) → List ℕ → Bool
has_name ns name = list_any (λ n. bytes_eq n name) ns

-- a negation names the items of this kind and name
abbrev pub drops : ItemKind → List ℕ → Stmt → Bool
drops kind name (stmt.NoItems k ns) = same_kind k kind && has_name ns name
drops kind name _ = false

-- the names of the items of this kind in a statement
abbrev pub item_names : ItemKind → Stmt → List (List ℕ)
item_names of_kind.Options (stmt.Options items) = map (λ i. i.name) items
item_names of_kind.MakeOptions (stmt.MakeOptions items) = map (λ i. i.name) items
item_names of_kind.FileSystem (stmt.FileSystems ns) = ns
item_names of_kind.PseudoDevice (stmt.PseudoDevice name count) = name ∷ []
item_names _ _ = []

-- the items of the statements that no later negation names; `of` gives a statement's items and `name_of` the name of one
unfoldable pub kept_items : {A : Type 0} → ItemKind → (Stmt → List A) → (A → List ℕ) → List Stmt → List A
kept_items kind items_of name_of [] = []
kept_items kind items_of name_of (s ∷ later) =
    filter (λ x. not (list_any (drops kind (name_of x)) later)) (items_of s) ++ kept_items kind items_of name_of later

-- a name in a negation takes back an item of a statement before it
unfoldable pub takes_item : ItemKind → List ℕ → List Stmt → Bool
takes_item kind name [] = false
takes_item kind name (s ∷ between) = (has_name (item_names kind s) name && not (list_any (drops kind name) between)) || takes_item kind name between

-- ---- rooted

-- what matters of an instance: its device and mark, its place and the parent that it names
pub record Inst : Type 0 where
  pub device : ℕ
  pub mark : UnitMark
  pub place : Place
  pub parent : Option ParentSpec

-- the parent's device, and a unit that is any, or that of the mark, which may be starred
abbrev pub is_parent : ParentSpec → Inst → Bool
is_parent p j = p.device == j.device && option_map_or (λ unit. same_mark j.mark Star || same_mark j.mark (Fixed unit)) p.unit true

-- the device offers the attribute of a place, where a test says which device offers which attribute
abbrev pub offers_place : (ℕ → ℕ → Bool) → ℕ → Place → Bool
offers_place offered device Root = false
offers_place offered device (At a) = offered device a

-- the first can carry the second
abbrev pub carries : (ℕ → ℕ → Bool) → Inst → Inst → Bool
carries offered j i = offers_place offered j.device i.place && option_map_or (λ p. is_parent p j) i.parent true

-- the root
abbrev pub is_root_place : Place → Bool
is_root_place Root = true
is_root_place (At a) = false

-- an instance at the root
abbrev pub is_at_root : Inst → Bool
is_at_root i = is_root_place i.place

-- the instance at one place carries the one at another
abbrev pub carries_at : (ℕ → ℕ → Bool) → List Inst → ℕ → ℕ → Bool
carries_at offered insts j i = option_map_or (λ x. option_map_or (λ y. carries offered x y) (slice_get insts i) false) (slice_get insts j) false

-- the instance at this place of the list is at the root
abbrev pub is_at_root_at : List Inst → ℕ → Bool
is_at_root_at insts i = option_map_or is_at_root (slice_get insts i) false

-- ---- what leads to the root, among n, where two tests say what is at the root and what carries what

-- each of these is carried by the next, and the last one is at the root
abbrev pub LeadsToRoot : (ℕ → Bool) → (ℕ → ℕ → Bool) → ℕ → ℕ → List ℕ → Type 0
LeadsToRoot at_root carries n i [] = (i < n) × (at_root i ≡ true)
LeadsToRoot at_root carries n i (j ∷ chain) = (i < n) × (carries j i ≡ true) × LeadsToRoot at_root carries n j chain

-- some chain leads to the root
abbrev pub Rooted : (ℕ → Bool) → (ℕ → ℕ → Bool) → ℕ → ℕ → Type 0
Rooted at_root carries n i = (chain : List ℕ) × LeadsToRoot at_root carries n i chain

-- one truth value for each, true exactly for those that are rooted
pub record AreRooted (at_root : ℕ → Bool) (carries : ℕ → ℕ → Bool) (n : ℕ) (marks : List Bool) : Type 0 where
  pub as_many : length marks ≡ n
  pub sound : (i : ℕ) → i < n → slice_index_or marks i false ≡ true → Rooted at_root carries n i
  pub complete : (i : ℕ) → Rooted at_root carries n i → slice_index_or marks i false ≡ true

-- what a device offers, as it is declared
abbrev pub offered_by : Declared → ℕ → ℕ → Bool
offered_by d = offers d.attrs d.devices

-- one truth value for each instance, true exactly for those that are rooted
abbrev pub RootedInsts : Declared → List Inst → List Bool → Type 0
RootedInsts d insts marks = AreRooted (is_at_root_at insts) (carries_at (offered_by d) insts) (length insts) marks
