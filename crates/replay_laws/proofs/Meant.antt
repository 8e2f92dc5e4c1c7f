-- The tables that a configuration means have their words within one line.
use Rattle.std.proofs.Common.{ℕ, zero, suc, Bool, false, Option, Some, None, List, [], ◌∷◌, ◌++◌, length, map, refl, sym, subst}
use Rattle.std.specs.Prelude.{All, IfSome, filter, filter_map, not, slice_index_or, unwrap_or}
use Rattle.std.specs.List.{cons_option, list_any}
use Rattle.std.proofs.lemmas.List.Elements.{All-append, All-cons, All-filter, All-head, All-map, All-nil, All-tail, All-weaker}
use Rattle.cf_types.specs.declared.instance.Instance.{Instance}
use Rattle.cf_types.specs.declared.stmt.ItemKind.{ItemKind}
use Rattle.cf_types.specs.declared.stmt.ItemKind.TheVariants as of_kind
use Rattle.cf_types.specs.declared.stmt.Placed.{Placed}
use Rattle.cf_types.specs.declared.stmt.Stmt.{Stmt}
use Rattle.cf_types.specs.declared.stmt.Stmt.TheVariants as stmt
use Rattle.cf_types.specs.declared.tables.Attr.{Attr}
use Rattle.cf_types.specs.declared.tables.Locator.{Locator}
use Rattle.cf_types.specs.declared.tables.Pseudo.{Pseudo}
use Rattle.cf_types.specs.declared.tables.Warning.{Warning}
use Rattle.config_rules.specs.Declared.{attr_name, attr_of, declared}
use Rattle.config_rules.specs.Fault.{stmts_of}
use Rattle.config_rules.specs.Meaning.{file_systems_in, idle, makeoptions_in, options_in, orphan, pseudos_in, surviving, tables_of, warning, warnings, marked}
use Rattle.config_rules.specs.Reading.{Reading, reading}
use Rattle.config_rules.specs.Select.{drops, kept_items}
use Rattle.config_rules.specs.Written.{IsName}
use Rattle.replay_laws.specs.Meant.{MeansLines, TakesMeant}
use Rattle.replay_laws.specs.OneLine.{AreOneLine, IsItemLine, IsOneLine}
use Rattle.replay_laws.proofs.OneLine.{written_line}
use Rattle.replay_laws.proofs.Placed.{IsLined, IsReadLined, reading_lined}
use Rattle.replay_laws.proofs.Taken.{own_taken}

-- ---- attributes

abbrev HasLineLocators : Attr → Type 0
HasLineLocators a = All (λ l. IsOneLine l.name) a.locs

filter_map_all : {X Y : Type 0} (H : X → Type 0) (P : Y → Type 0) (f : X → Option Y) → ((x : X) → H x → IfSome (f x) P) → (xs : List X) → All H xs → All P (filter_map f xs)
filter_map_all H P f h [] all = All-nil P
filter_map_all {Y} H P f h (x ∷ xs) all = by (f x) (h x (All-head H x xs all)) (filter_map_all H P f h xs (All-tail H x xs all))
  where
    by : (o : Option Y) → IfSome o P → All P (filter_map f xs) → All P (cons_option o (filter_map f xs))
    by None p rest = rest
    by (Some y) p rest = All-cons P y (filter_map f xs) p rest

locators_lined : (locs : List Locator) → All (λ l. IsName l.name) locs → All (λ l. IsOneLine l.name) locs
locators_lined locs all = All-weaker (λ l. IsName l.name) (λ l. IsOneLine l.name) (λ l h. written_line l.name h) locs all

attr_lined : (names : List (List ℕ)) (s : Stmt) → IsLined s → IfSome (attr_of names s) HasLineLocators
attr_lined names (stmt.Define name locs needs) h = locators_lined (unwrap_or locs []) h.0.1.1
attr_lined names (stmt.Class name) h = All-nil (λ l. IsOneLine l.name)
attr_lined names (stmt.DefPseudo name locs needs) h = locators_lined (unwrap_or locs []) h.0.1.1
attr_lined names (stmt.Device name None needs) h = tt
attr_lined names (stmt.Device name (Some locs) needs) h = locators_lined locs h.0.2.1
attr_lined names _ h = tt

attrs_lined : (stmts : List Stmt) → All IsLined stmts → All HasLineLocators (declared stmts).attrs
unfolding declared
attrs_lined stmts all = filter_map_all IsLined HasLineLocators (attr_of (filter_map attr_name stmts)) (attr_lined (filter_map attr_name stmts)) stmts all

-- ---- items

kept_all : {A : Type 0} (P : A → Type 0) (kind : ItemKind) (items_of : Stmt → List A) (name_of : A → List ℕ) → ((s : Stmt) → IsLined s → All P (items_of s)) → (stmts : List Stmt) → All IsLined stmts
    → All P (kept_items kind items_of name_of stmts)
unfolding kept_items
kept_all P kind items_of name_of h [] all = All-nil P
kept_all P kind items_of name_of h (s ∷ later) all =
    All-append P (filter (λ x. not (list_any (drops kind (name_of x)) later)) (items_of s)) (kept_items kind items_of name_of later)
    (All-filter (λ x. not (list_any (drops kind (name_of x)) later)) P (items_of s) (h s (All-head IsLined s later all)))
    (kept_all P kind items_of name_of h later (All-tail IsLined s later all))

options_lined : (s : Stmt) → IsLined s → All IsItemLine (options_in s)
options_lined (stmt.Options items) h = h.1
options_lined _ h = All-nil IsItemLine

makeoptions_lined : (s : Stmt) → IsLined s → All IsItemLine (makeoptions_in s)
makeoptions_lined (stmt.MakeOptions items) h = h.1
makeoptions_lined _ h = All-nil IsItemLine

file_systems_lined : (s : Stmt) → IsLined s → All IsOneLine (file_systems_in s)
file_systems_lined (stmt.FileSystems names) h = h.1
file_systems_lined _ h = All-nil IsOneLine

pseudos_lined : (s : Stmt) → IsLined s → All (λ p. IsOneLine p.name) (pseudos_in s)
pseudos_lined (stmt.PseudoDevice name count) h = All-cons (λ (p : Pseudo). IsOneLine p.name) (record { name = name; count = count }) [] h.1 (All-nil (λ (p : Pseudo). IsOneLine p.name))
pseudos_lined _ h = All-nil (λ p. IsOneLine p.name)

-- ---- warnings

file_lined : (files : List (List ℕ)) (i : ℕ) → All IsOneLine files → IsOneLine (slice_index_or files i [])
file_lined [] i all = refl
file_lined (file ∷ files) zero all = All-head IsOneLine file files all
file_lined (file ∷ files) (suc i) all = file_lined files i (All-tail IsOneLine file files all)

each_kind : {A : Type 0} (f : A → Warning) (xs : List A) → ((x : A) → IsOneLine (f x).file) → All (λ w. IsOneLine w.file) (map f xs)
each_kind f [] h = All-nil (λ w. IsOneLine w.file)
each_kind f (x ∷ xs) h = All-cons (λ w. IsOneLine w.file) (f x) (map f xs) (h x) (each_kind f xs h)

warnings_lined : (files : List (List ℕ)) (orphans : List Instance) (before : List Stmt) (placed : List Placed) → All IsOneLine files → All (λ w. IsOneLine w.file) (warnings files orphans before placed)
unfolding warnings
warnings_lined files orphans before [] all = All-nil (λ w. IsOneLine w.file)
warnings_lined files orphans before (p ∷ placed) all =
    All-append (λ w. IsOneLine w.file) (map (warning files p) (idle before p.stmt ++ orphan orphans (length before))) (warnings files orphans (before ++ p.stmt ∷ []) placed)
    (each_kind (warning files p) (idle before p.stmt ++ orphan orphans (length before)) (λ kind. file_lined files p.file all))
    (warnings_lined files orphans (before ++ p.stmt ∷ []) placed all)

-- ---- tables

tables_lined : (r : Reading) (marks : List Bool) → IsReadLined r → AreOneLine (tables_of r marks)
tables_lined r marks h =
    let stmts = All-map IsLined (λ p. p.stmt) r.placed h.placed in
    record {
      locators = attrs_lined (stmts_of r.placed) stmts;
      pseudos = kept_all (λ p. IsOneLine p.name) of_kind.PseudoDevice pseudos_in (λ p. p.name) pseudos_lined (stmts_of r.placed) stmts;
      options = kept_all IsItemLine of_kind.Options options_in (λ i. i.name) options_lined (stmts_of r.placed) stmts;
      makeoptions = kept_all IsItemLine of_kind.MakeOptions makeoptions_in (λ i. i.name) makeoptions_lined (stmts_of r.placed) stmts;
      file_systems = kept_all IsOneLine of_kind.FileSystem file_systems_in (λ n. n) file_systems_lined (stmts_of r.placed) stmts;
      warnings = warnings_lined r.files (marked false (surviving [] (stmts_of r.placed)) marks) [] r.placed h.files;
    }

-- ---- the laws

pub means_lines : MeansLines
means_lines files name tables means one = subst AreOneLine (sym means.shown) (tables_lined (reading files name) means.marks (reading_lined files name one))

pub meant_taken : TakesMeant
meant_taken files name s f h v means one play run = own_taken s f h v play (means_lines files name s.tables means one) run
