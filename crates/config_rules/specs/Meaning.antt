-- The tables that a configuration means, after those that config(1) makes. The order of the rows, the first units of
-- starred rows and the warnings are this project's profile.
use Rattle.std.specs.Prelude.{◌≡◌, ℕ, ◌+◌, Bool, true, false, not, ◌==◌, max, if◌then◌else◌, List, [], ◌∷◌, ◌++◌, length, map, filter, filter_map, flat_map, fold, slice_index_or, Option, Some, None, is_some, unwrap_or, Result, Ok, Err, ℤ}
use Rattle.std.specs.List.{list_any, zip}
use Rattle.std.specs.Option.{option_map_or}
use Rattle.cf_types.specs.Numbers.{below}
use Rattle.cf_types.specs.declared.stmt.Item.{Item}
use Rattle.cf_types.specs.declared.stmt.ItemKind.TheVariants as of_kind
use Rattle.cf_types.specs.declared.stmt.Placed.{Placed}
use Rattle.cf_types.specs.declared.stmt.Stmt.{Stmt}
use Rattle.cf_types.specs.declared.stmt.Stmt.TheVariants as stmt
use Rattle.cf_types.specs.declared.stmt.UnitMark.{UnitMark}
use Rattle.cf_types.specs.declared.stmt.UnitMark.TheVariants.{Fixed, Star}
use Rattle.cf_types.specs.declared.tables.Row.{Row}
use Rattle.cf_types.specs.declared.tables.Pseudo.{Pseudo}
use Rattle.cf_types.specs.declared.tables.WarnKind.{WarnKind}
use Rattle.cf_types.specs.declared.tables.WarnKind.TheVariants as warns
use Rattle.cf_types.specs.declared.tables.Warning.{Warning}
use Rattle.cf_types.specs.declared.tables.Tables.{Tables}
use Rattle.config_rules.specs.Reading.{Files, Reading, reading}
use Rattle.config_rules.specs.Declared.{Declared, declared}
use Rattle.cf_types.specs.Offers.{firsts}
use Rattle.cf_types.specs.declared.instance.Instance.{Instance}
use Rattle.cf_types.specs.declared.instance.Joined.{Joined}
use Rattle.config_rules.specs.Joined.{join}
use Rattle.config_rules.specs.Fault.{Accepted, stmts_of}
use Rattle.config_rules.specs.Select.{Inst, RootedInsts, survives, takes_back, kept_items, takes_item, same_mark}

-- ---- the instances

-- the instance, where it joins something
abbrev pub if_joined : ℕ → UnitMark → ℤ → Result Joined ℕ → Option Instance
if_joined n mark flags (Ok j) = Some (record { stmt = n; joined = j; mark = mark; flags = flags })
if_joined n mark flags (Err code) = None

-- it joins what was declared before it
abbrev pub instance_of : List Stmt → Stmt → Option Instance
instance_of before (stmt.Inst base mark at pairs flags) = if_joined (length before) mark flags (join (declared before) base at pairs)
instance_of before _ = None

-- the surviving instances among these statements, after those before
unfoldable pub surviving : List Stmt → List Stmt → List Instance
surviving before [] = []
surviving before (s ∷ later) =
    (if survives s later then option_map_or (λ i. i ∷ []) (instance_of before s) [] else []) ++ surviving (before ++ s ∷ []) later

-- what matters of an instance for being rooted
abbrev pub inst_of : Instance → Inst
inst_of i = record { device = i.joined.device; mark = i.mark; place = i.joined.place; parent = i.joined.parent }

-- those that a list of truth values marks, or those that it doesn't
abbrev pub marked : Bool → List Instance → List Bool → List Instance
marked wanted insts marks = map (λ e. e.0) (filter (λ e. if e.1 then wanted else not wanted) (zip insts marks))

-- ---- the rows

-- the number of an instance that is not starred
abbrev pub own_unit : Instance → Option ℕ
own_unit i = number i.mark
  where
    number : UnitMark → Option ℕ
    number (Fixed unit) = Some unit
    number Star = None

-- one more than the greatest of these units; 0 where there is none
abbrev pub first_unit : List ℕ → ℕ
first_unit units = fold (λ n unit. max n (unit + 1)) 0 units

-- the row of an instance, where this is the first unit of a starred one
abbrev pub row : ℕ → Instance → Row
row first i = record {
  device = i.joined.device;
  unit = unwrap_or (own_unit i) first;
  star = not (is_some (own_unit i));
  attach = i.joined.attach;
  place = i.joined.place;
  parent = i.joined.parent;
  locs = i.joined.locs;
  flags = i.flags;
}

-- the rows without star, equal units together at the place of the first of them, and then the starred rows
abbrev pub in_order : List Instance → List Instance
in_order insts =
    flat_map (λ unit. filter (λ i. same_mark i.mark (Fixed unit)) insts) (firsts (filter_map own_unit insts))
    ++ filter (λ i. same_mark i.mark Star) insts

-- the rows of one device, from those of its instances that are rooted
abbrev pub device_rows : List Instance → ℕ → List Row
device_rows insts device =
    let own = filter (λ i. i.joined.device == device) insts in
    map (row (first_unit (filter_map own_unit own))) (in_order own)

-- the rows of all devices, in the order of their definitions
unfoldable pub rows_of : ℕ → List Instance → List Row
rows_of devices insts = flat_map (device_rows insts) (below devices)

-- ---- the items

-- the options of a statement
abbrev pub options_in : Stmt → List Item
options_in (stmt.Options items) = items
options_in _ = []

-- the makeoptions of a statement
abbrev pub makeoptions_in : Stmt → List Item
makeoptions_in (stmt.MakeOptions items) = items
makeoptions_in _ = []

-- the file systems of a statement
abbrev pub file_systems_in : Stmt → List (List ℕ)
file_systems_in (stmt.FileSystems names) = names
file_systems_in _ = []

-- the pseudo-device of a statement
abbrev pub pseudos_in : Stmt → List Pseudo
pseudos_in (stmt.PseudoDevice name count) = record { name = name; count = count } ∷ []
pseudos_in _ = []

-- ---- the warnings

-- a negation of instances that takes back nothing
abbrev pub is_idle : List Stmt → Stmt → Bool
is_idle before (stmt.NoInst base mark at) = not (takes_back (stmt.NoInst base mark at) before)
is_idle before (stmt.NoDevice at) = not (takes_back (stmt.NoDevice at) before)
is_idle before _ = false

-- the names in a negation of items that take back nothing
abbrev pub idle_names : List Stmt → Stmt → List (List ℕ)
idle_names before (stmt.NoItems kind names) = filter (λ name. not (takes_item kind name before)) names
idle_names before _ = []

-- the places of the negations of instances that take back nothing, among these statements, after those before
unfoldable pub idle_insts : List Stmt → List Stmt → List ℕ
idle_insts before [] = []
idle_insts before (s ∷ later) = (if is_idle before s then length before ∷ [] else []) ++ idle_insts (before ++ s ∷ []) later

-- the place of a negation of items, once for each of its names that takes back nothing
unfoldable pub idle_items : List Stmt → List Stmt → List ℕ
idle_items before [] = []
idle_items before (s ∷ later) = map (λ name. length before) (idle_names before s) ++ idle_items (before ++ s ∷ []) later

-- a warning for each name of a negation that takes back nothing
abbrev pub idle : List Stmt → Stmt → List WarnKind
idle before s = (if is_idle before s then warns.Nothing ∷ [] else []) ++ map (λ name. warns.Nothing) (idle_names before s)

-- and one for a surviving instance that isn't rooted
abbrev pub orphan : List Instance → ℕ → List WarnKind
orphan orphans n = if list_any (λ i. i.stmt == n) orphans then warns.Orphan ∷ [] else []

-- a warning at the file and line of a statement
abbrev pub warning : List (List ℕ) → Placed → WarnKind → Warning
warning files p kind = record { file = slice_index_or files p.file []; line = p.line; kind = kind }

-- the warnings of these statements, after those before
unfoldable pub warnings : List (List ℕ) → List Instance → List Stmt → List Placed → List Warning
warnings files orphans before [] = []
warnings files orphans before (p ∷ placed) =
    map (warning files p) (idle before p.stmt ++ orphan orphans (length before)) ++ warnings files orphans (before ++ p.stmt ∷ []) placed

-- ---- the tables

-- the tables of what was read, where one truth value for each surviving instance tells whether it is rooted
abbrev pub tables_with : Reading → List Stmt → Declared → List Instance → List Bool → Tables
tables_with r stmts d insts marks = record {
  attrs = d.attrs;
  devices = d.devices;
  attaches = d.attaches;
  rows = rows_of (length d.devices) (marked true insts marks);
  pseudos = kept_items of_kind.PseudoDevice pseudos_in (λ p. p.name) stmts;
  options = kept_items of_kind.Options options_in (λ i. i.name) stmts;
  makeoptions = kept_items of_kind.MakeOptions makeoptions_in (λ i. i.name) stmts;
  file_systems = kept_items of_kind.FileSystem file_systems_in (λ n. n) stmts;
  warnings = warnings r.files (marked false insts marks) [] r.placed;
}

-- the tables of what was read, given which of the surviving instances are rooted
abbrev pub tables_of : Reading → List Bool → Tables
tables_of r marks = tables_with r (stmts_of r.placed) (declared (stmts_of r.placed)) (surviving [] (stmts_of r.placed)) marks

-- the configuration is accepted, and the tables are what it means
pub record Means (files : Files) (name : List ℕ) (tables : Tables) : Type 0 where
  pub accepted : Accepted files name
  pub marks : List Bool
  pub rooted : RootedInsts (declared (stmts_of (reading files name).placed)) (map inst_of (surviving [] (stmts_of (reading files name).placed))) marks
  pub shown : tables ≡ tables_of (reading files name) marks
