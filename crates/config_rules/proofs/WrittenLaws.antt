-- A statement that has a form is written within the limits of the grammar.
use Rattle.std.proofs.Common.{◌≡◌, ℕ, ◌≤◌, ◌-◌, Bool, true, false, cond, ◌&&◌, Option, Some, None, List, [], ◌∷◌, length, take, drop, map, refl, arith}
use Rattle.std.specs.Prelude.{IfSome, All, ⊤, nat_le, nat_lt, option_map, option_and_then, ◌==◌, slice_index, codes}
use Rattle.std.specs.List.{before_first, list_all}
use Rattle.std.specs.Str.Parse.{digits_value}
use Rattle.std.proofs.lemmas.Bool.{leb-true}
use Rattle.std.proofs.lemmas.List.Elements.{All-cons, All-nil}
use Rattle.config_rules.proofs.GivenLaws.{if_given}
use Rattle.cf_types.specs.declared.stmt.Piece.{Piece}
use Rattle.cf_types.specs.declared.stmt.UnitMark.{UnitMark}
use Rattle.cf_types.specs.declared.stmt.UnitMark.TheVariants.{Fixed, Star}
use Rattle.cf_types.specs.declared.keyword.Keyword.{Keyword}
use Rattle.cf_types.specs.declared.keyword.Keyword.TheVariants as word
use Rattle.cf_types.specs.declared.keyword.TheConstants.{KEYWORDS}
use Rattle.cf_types.specs.declared.stmt.CondWord.{CondWord}
use Rattle.cf_types.specs.declared.stmt.CondWord.TheVariants as condition
use Rattle.cf_types.specs.declared.stmt.ItemKind.{ItemKind}
use Rattle.cf_types.specs.declared.stmt.ItemKind.TheVariants as of_kind
use Rattle.cf_types.specs.declared.stmt.Stmt.{Stmt}
use Rattle.cf_types.specs.declared.stmt.Stmt.TheVariants as stmt
use Rattle.cf_types.specs.declared.tables.Locator.{Locator}
use Rattle.cf_text.specs.Shapes.{ends_with_digit, is_written, is_decimal, base_len, base_and_unit, base_before}
use Rattle.config_rules.specs.Form.{◌or◌, alone, at_place, attach_stmt, attached, by_row, cond_form, count_of, defining, device_stmt, each, fixed_of, form_by, form_of, free_form, given, inst_stmt, is_chunk, is_mark, is_word, locator_name, locator_of, locators_of, marked_of, make_item, name_of, names_of, option_item, path_of, needs_of, no_inst, no_stmt, pairs_of, parted, parted_at, place_of, prefix_stmt, pseudo_stmt, row_by, row_of, table, TableRow, unit_chunk, value_of, with_body, with_default, fitted, places_and_name}
use Rattle.config_rules.specs.Written.{AreLocators, IsName, IsUnit, IsWritten}
use Rattle.config_rules.proofs.CutLaws.{both_left, both_right}

-- ---- what an option gives, if it gives something

if_all : {A : Type 0} (P : A → Type 0) (o : Option A) → ((x : A) → P x) → IfSome o P
if_all P None h = tt
if_all P (Some x) h = h x

if_weaker : {A : Type 0} (P Q : A → Type 0) (o : Option A) → ((x : A) → P x → Q x) → IfSome o P → IfSome o Q
if_weaker P Q None h k = tt
if_weaker P Q (Some x) h k = h x k

if_map : {A B : Type 0} (P : B → Type 0) (f : A → B) (o : Option A) → IfSome o (λ x. P (f x)) → IfSome (option_map f o) P
if_map P f None h = tt
if_map P f (Some x) h = h

if_then : {A B : Type 0} (P : B → Type 0) (f : A → Option B) (o : Option A) → IfSome o (λ x. IfSome (f x) P) → IfSome (option_and_then f o) P
if_then P f None h = tt
if_then P f (Some x) h = h

if_or : {A : Type 0} (P : A → Type 0) (o rest : Option A) → IfSome o P → IfSome rest P → IfSome (o or rest) P
if_or P None rest h k = k
if_or P (Some x) rest h k = h

if_both : {A : Type 0} (P : A → Type 0) (b : Bool) (o rest : Option A) → (b ≡ true → IfSome o P) → (b ≡ false → IfSome rest P) → IfSome (cond b o rest) P
if_both P true o rest h k = h refl
if_both P false o rest h k = k refl

-- what each gives, if each gives something
if_each : {A B : Type 0} (P : B → Type 0) (f : A → Option B) → ((x : A) → IfSome (f x) P) → (xs : List A) → IfSome (each f xs) (All P)
if_each P f h [] = All-nil P
if_each P f h (x ∷ xs) =
    if_then (All P) (λ y. option_map (λ ys. y ∷ ys) (each f xs)) (f x)
    (if_weaker P (λ y. IfSome (option_map (λ ys. y ∷ ys) (each f xs)) (All P)) (f x)
    (λ y here. if_map (All P) (λ ys. y ∷ ys) (each f xs) (if_weaker (All P) (λ ys. All P (y ∷ ys)) (each f xs) (λ ys. All-cons P y ys here) (if_each P f h xs)))
    (h x))

if_alone : {A : Type 0} (P : A → Type 0) (f : Piece → Option A) → ((p : Piece) → IfSome (f p) P) → (ps : List Piece) → IfSome (alone f ps) P
if_alone P f h [] = tt
if_alone P f h (p ∷ []) = h p
if_alone P f h (p ∷ q ∷ ps) = tt

-- ---- names

named : (p : Piece) → IfSome (name_of p) IsName
named p = if_given IsName (is_chunk p && is_written p.text) p.text (both_right (is_chunk p) (is_written p.text))

all_named : (ps : List Piece) → IfSome (names_of ps) (All IsName)
all_named ps = if_each IsName (alone name_of) (if_alone IsName name_of named) (parted ps)

needs_named : (ps : List Piece) → IfSome (needs_of ps) (All IsName)
needs_named [] = All-nil IsName
needs_named (p ∷ ps) = if_both (All IsName) (is_mark (codes ":") p) (names_of ps) None (λ _. all_named ps) (λ _. tt)

-- ---- locators

abbrev HasName : Locator → Type 0
HasName l = IsName l.name

locator_named : (p : Piece) → IfSome (locator_name p) IsName
locator_named p = if_both IsName (is_word (codes "flags") p) None (name_of p) (λ _. tt) (λ _. named p)

default_named : (optional : Bool) (n equals v : Piece) → IfSome (with_default true optional n equals v) HasName
default_named optional n equals v =
    if_both HasName (is_mark (codes "=") equals) _ None
    (λ _. if_then HasName _ (locator_name n)
    (if_weaker IsName _ (locator_name n) (λ name here. if_map HasName _ (value_of true v) (if_all _ (value_of true v) (λ x. here))) (locator_named n)))
    (λ _. tt)

locator_shaped : (ps : List Piece) → IfSome (locator_of true ps) HasName
locator_shaped [] = tt
locator_shaped (n ∷ []) = if_map HasName _ (locator_name n) (locator_named n)
locator_shaped (a ∷ b ∷ []) = tt
locator_shaped (n ∷ equals ∷ v ∷ []) = default_named false n equals v
locator_shaped (a ∷ b ∷ c ∷ d ∷ []) = tt
locator_shaped (open_bracket ∷ n ∷ equals ∷ v ∷ close_bracket ∷ []) =
    if_both HasName (is_mark (codes "[") open_bracket && is_mark (codes "]") close_bracket) (with_default true true n equals v) None (λ _. default_named true n equals v) (λ _. tt)
locator_shaped (a ∷ b ∷ c ∷ d ∷ e ∷ f ∷ ps) = tt

few_locators : (ps : List Piece) → IfSome (locators_of true ps) (λ locs. AreLocators (Some locs))
few_locators [] = (omega arith, All-nil HasName)
few_locators (p ∷ ps) =
    if_then (λ locs. AreLocators (Some locs)) _ (each (locator_of true) (parted (p ∷ ps)))
    (if_weaker (All HasName) _ (each (locator_of true) (parted (p ∷ ps)))
    (λ locs here. if_given (λ ls. AreLocators (Some ls)) (nat_le (length locs) 16) locs (λ few. (leb-true (length locs) 16 few, here)))
    (if_each HasName (locator_of true) locator_shaped (parted (p ∷ ps))))

no_locators : AreLocators None
no_locators = (omega arith, All-nil HasName)

-- ---- definitions

body_written : (make : Option (List Locator) → List (List ℕ) → Stmt) → ((locs : Option (List Locator)) (needs : List (List ℕ)) → AreLocators locs → All IsName needs → IsWritten (make locs needs))
    → (ps : List Piece) → IfSome (with_body true make ps) IsWritten
body_written make h [] = h None [] no_locators (All-nil IsName)
body_written make h (p ∷ ps) =
    if_both IsWritten (is_mark (codes "{") p) _ (option_map (make None) (needs_of (p ∷ ps)))
    (λ _. if_then IsWritten _ (parted_at (codes "}") ps)
    (if_all _ (parted_at (codes "}") ps) (λ parts.
    if_then IsWritten _ (locators_of true parts.0)
    (if_weaker (λ locs. AreLocators (Some locs)) _ (locators_of true parts.0) (λ locs fit.
    if_map IsWritten (make (Some locs)) (needs_of parts.1)
    (if_weaker (All IsName) _ (needs_of parts.1) (λ needs. h (Some locs) needs fit) (needs_named parts.1)))
    (few_locators parts.0)))))
    (λ _. if_map IsWritten (make None) (needs_of (p ∷ ps))
    (if_weaker (All IsName) _ (needs_of (p ∷ ps)) (λ needs. h None needs no_locators) (needs_named (p ∷ ps))))

-- what is made of the name of the first token
named_body : (make : List ℕ → Option (List Locator) → List (List ℕ) → Stmt) (n : Piece) (ps : List Piece)
    → ((locs : Option (List Locator)) (needs : List (List ℕ)) → IsName n.text → AreLocators locs → All IsName needs → IsWritten (make n.text locs needs))
    → IfSome (defining true make (n ∷ ps)) IsWritten
named_body make n ps h = by_test (is_chunk n) (is_written n.text) (λ shaped. body_written (make n.text) (λ locs needs. h locs needs shaped) ps)
  where
    by_test : (a b : Bool) → (b ≡ true → IfSome (with_body true (make n.text) ps) IsWritten) → IfSome (option_and_then (λ name. with_body true (make name) ps) (given (a && b) n.text)) IsWritten
    by_test true true k = k refl
    by_test true false k = tt
    by_test false b k = tt

define_written : (ps : List Piece) → IfSome (defining true stmt.Define ps) IsWritten
define_written [] = tt
define_written (n ∷ ps) = named_body stmt.Define n ps (λ locs needs shaped fit all. (shaped, fit, all))

defpseudo_written : (ps : List Piece) → IfSome (defining true stmt.DefPseudo ps) IsWritten
defpseudo_written [] = tt
defpseudo_written (n ∷ ps) = named_body stmt.DefPseudo n ps (λ locs needs shaped fit all. (shaped, fit, all))

device_written : (ps : List Piece) → IfSome (device_stmt true ps) IsWritten
device_written [] = tt
device_written (n ∷ ps) =
    if_both IsWritten (ends_with_digit n.text) None (defining true stmt.Device (n ∷ ps)) (λ _. tt)
    (λ plain. named_body stmt.Device n ps (λ locs needs shaped fit all. (shaped, plain, fit, all)))

-- places and an attachment's name that may be written
abbrev AreNamed : List (List ℕ) × Option (List ℕ) → Type 0
AreNamed a = All IsName a.0 × IfSome a.1 IsName

one_name : (name : List ℕ) → IsName name → All IsName (name ∷ [])
one_name name own = All-cons IsName name [] own (All-nil IsName)

places_named : (ps : List Piece) → IfSome (places_and_name ps) AreNamed
places_named [] = tt
places_named (n ∷ []) = if_map AreNamed _ (name_of n) (if_weaker IsName _ (name_of n) (λ place own. (one_name place own, tt)) (named n))
places_named (n ∷ m ∷ ps) =
    if_then AreNamed _ (name_of n)
    (if_weaker IsName _ (name_of n) (λ place own.
    if_both AreNamed (is_mark (codes ",") m) (option_map (λ rest. (place ∷ rest.0, rest.1)) (places_and_name ps)) _
    (λ _. if_map AreNamed _ (places_and_name ps) (if_weaker AreNamed _ (places_and_name ps) (λ rest all. (All-cons IsName place rest.0 own all.0, all.1)) (places_named ps)))
    (λ _. if_both AreNamed (is_word (codes "with") m) (option_map (λ name. (place ∷ [], Some name)) (alone name_of ps)) None
    (λ _. if_map AreNamed _ (alone name_of ps) (if_weaker IsName _ (alone name_of ps) (λ name there. (one_name place own, there)) (if_alone IsName name_of named ps)))
    (λ _. tt)))
    (named n))

attached_written : (device : List ℕ) (needs : List (List ℕ)) (ps : List Piece) → IsName device → All IsName needs → IfSome (attached device needs ps) IsWritten
attached_written device needs ps shaped all =
    if_map IsWritten _ (places_and_name ps) (if_weaker AreNamed _ (places_and_name ps) (λ a are. (shaped, are.0, are.1, all)) (places_named ps))

attach_written : (ps : List Piece) → IfSome (attach_stmt ps) IsWritten
attach_written [] = tt
attach_written (d ∷ []) = tt
attach_written (d ∷ at ∷ ps) =
    let front = before_first (is_mark (codes ":")) ps in
    if_both IsWritten (is_word (codes "at") at) _ None
    (λ _. if_then IsWritten _ (name_of d)
    (if_weaker IsName _ (name_of d) (λ device shaped.
    if_then IsWritten (λ needs. attached device needs front) (needs_of (drop (length front) ps))
    (if_weaker (All IsName) _ (needs_of (drop (length front) ps)) (λ needs all. attached_written device needs front shaped all) (needs_named (drop (length front) ps))))
    (named d)))
    (λ _. tt)

-- ---- instances

abbrev IsUnitOf : List ℕ × UnitMark → Type 0
IsUnitOf u = IsName u.0 × IsUnit u.1

based : (chunk : List ℕ) → IfSome (base_and_unit chunk) (λ u. IsName u.0)
based chunk =
    let base = take (base_len chunk) chunk in
    let behind = drop (base_len chunk) chunk in
    if_both (λ u. IsName u.0) (is_written base && is_decimal behind) (Some (base, digits_value 10 behind)) None (both_left (is_written base) (is_decimal behind)) (λ _. tt)

fixed_shaped : (p : Piece) → IfSome (fixed_of true p) (λ u. IsName u.0 × (u.1 ≤ 65535))
fixed_shaped p =
    if_both (λ u. IsName u.0 × (u.1 ≤ 65535)) (is_chunk p) _ None
    (λ _. if_then (λ u. IsName u.0 × (u.1 ≤ 65535)) (λ u. fitted true (nat_le u.1 65535) u (u.0, 0)) (base_and_unit p.text)
    (if_weaker (λ u. IsName u.0) _ (base_and_unit p.text) (λ u shaped.
    if_both (λ v. IsName v.0 × (v.1 ≤ 65535)) (nat_le u.1 65535) (Some u) None (λ few. (shaped, leb-true u.1 65535 few)) (λ _. tt))
    (based p.text)))
    (λ _. tt)

marked_shaped : (mark : ℕ) (p : Piece) → IfSome (marked_of mark p) IsName
marked_shaped mark p =
    let chunk = p.text in
    let base = take (length chunk - 1) chunk in
    if_both IsName (is_chunk p) (base_before mark chunk) None
    (λ _. if_both IsName (slice_index chunk (length chunk - 1) == mark && is_written base) (Some base) None (both_right (slice_index chunk (length chunk - 1) == mark) (is_written base)) (λ _. tt))
    (λ _. tt)

unit_shaped : (p : Piece) → IfSome (unit_chunk true p) IsUnitOf
unit_shaped p =
    if_or IsUnitOf (option_map (λ u. (u.0, Fixed u.1)) (fixed_of true p)) (option_map (λ base. (base, Star)) (marked_of 42 p))
    (if_map IsUnitOf (λ u. (u.0, Fixed u.1)) (fixed_of true p) (fixed_shaped p))
    (if_map IsUnitOf (λ base. (base, Star)) (marked_of 42 p) (if_weaker IsName _ (marked_of 42 p) (λ base shaped. (shaped, tt)) (marked_shaped 42 p)))

inst_written : (ps : List Piece) → IfSome (inst_stmt true ps) IsWritten
inst_written [] = tt
inst_written (u ∷ []) = tt
inst_written (u ∷ at ∷ []) = tt
inst_written (u ∷ at ∷ x ∷ ps) =
    if_both IsWritten (is_word (codes "at") at) _ None
    (λ _. if_then IsWritten _ (unit_chunk true u)
    (if_weaker IsUnitOf _ (unit_chunk true u) (λ unit shaped.
    if_then IsWritten _ (place_of true x)
    (if_all _ (place_of true x) (λ place. if_map IsWritten _ (pairs_of true ps) (if_all _ (pairs_of true ps) (λ rest. shaped)))))
    (unit_shaped u)))
    (λ _. tt)

-- ---- statements without limits

-- a statement without limits, made of what an option gives
free_map : {A : Type 0} (make : A → Stmt) → ((x : A) → IsWritten (make x)) → (o : Option A) → IfSome (option_map make o) IsWritten
free_map make h o = if_map IsWritten make o (if_all (λ x. IsWritten (make x)) o h)

free_given : (b : Bool) (s : Stmt) → IsWritten s → IfSome (given b s) IsWritten
free_given b s h = if_given IsWritten b s (λ _. h)

no_inst_written : (base : List ℕ) (mark : UnitMark) (ps : List Piece) → IfSome (no_inst true base mark ps) IsWritten
no_inst_written base mark [] = tt
no_inst_written base mark (p ∷ ps) = free_map (λ at. stmt.NoInst base mark (Some at)) (λ x. tt) (at_place true (p ∷ ps))

names_back : (kind : ItemKind) (ps : List Piece) → IfSome (option_map (stmt.NoItems kind) (names_of ps)) IsWritten
names_back kind ps = free_map (stmt.NoItems kind) (λ x. tt) (names_of ps)

no_stmt_written : (ps : List Piece) → IfSome (no_stmt true ps) IsWritten
no_stmt_written [] = tt
no_stmt_written (p ∷ ps) =
    if_both IsWritten (is_word (codes "options") p) _ _ (λ _. names_back of_kind.Options ps) (λ _.
    if_both IsWritten (is_word (codes "makeoptions") p) _ _ (λ _. names_back of_kind.MakeOptions ps) (λ _.
    if_both IsWritten (is_word (codes "file-system") p) _ _ (λ _. names_back of_kind.FileSystem ps) (λ _.
    if_both IsWritten (is_word (codes "pseudo-device") p) _ _ (λ _. free_map (λ name. stmt.NoItems of_kind.PseudoDevice (name ∷ [])) (λ x. tt) (alone name_of ps)) (λ _.
    if_both IsWritten (is_word (codes "device") p) _ _ (λ _. free_map stmt.NoDevice (λ x. tt) (at_place true ps)) (λ _.
    if_then IsWritten _ (unit_chunk true p) (if_all _ (unit_chunk true p) (λ u. no_inst_written u.0 u.1 ps)))))))

pseudo_written : (ps : List Piece) → IfSome (pseudo_stmt true ps) IsWritten
pseudo_written [] = tt
pseudo_written (n ∷ []) = free_map (λ name. stmt.PseudoDevice name 1) (λ x. tt) (name_of n)
pseudo_written (n ∷ v ∷ []) =
    if_then IsWritten (λ name. option_map (stmt.PseudoDevice name) (count_of true v)) (name_of n)
    (if_all _ (name_of n) (λ name. free_map (stmt.PseudoDevice name) (λ x. tt) (count_of true v)))
pseudo_written (a ∷ b ∷ c ∷ ps) = tt

prefix_written : (ps : List Piece) → IfSome (prefix_stmt ps) IsWritten
prefix_written [] = tt
prefix_written (p ∷ ps) = free_map (λ path. stmt.Prefix (Some path)) (λ x. tt) (alone path_of (p ∷ ps))

-- ---- the table

-- what a row gives is written
abbrev RowWritten : TableRow → Type 0
RowWritten r = (ps : List Piece) → IfSome (r.form true ps) IsWritten

abbrev RowsWritten : List TableRow → Type 0
RowsWritten [] = ⊤
RowsWritten (r ∷ rows) = RowWritten r × RowsWritten rows

row_written : (rows : List TableRow) → RowsWritten rows → (p : Piece) → IfSome (row_of rows p) RowWritten
row_written [] h p = tt
row_written (r ∷ rows) h p = if_both RowWritten (is_word r.word p) (Some r) (row_of rows p) (λ _. h.0) (λ _. row_written rows h.1 p)

cond_written : (c : CondWord) (ps : List Piece) → IfSome (cond_form c ps) IsWritten
cond_written condition.IfDef ps = free_map (λ name. stmt.Cond condition.IfDef (Some name)) (λ x. tt) (alone name_of ps)
cond_written condition.IfNDef ps = free_map (λ name. stmt.Cond condition.IfNDef (Some name)) (λ x. tt) (alone name_of ps)
cond_written condition.ElifDef ps = free_map (λ name. stmt.Cond condition.ElifDef (Some name)) (λ x. tt) (alone name_of ps)
cond_written condition.ElifNDef ps = free_map (λ name. stmt.Cond condition.ElifNDef (Some name)) (λ x. tt) (alone name_of ps)
cond_written condition.Else ps = free_given (length ps == 0) (stmt.Cond condition.Else None) tt
cond_written condition.EndIf ps = free_given (length ps == 0) (stmt.Cond condition.EndIf None) tt

free_written : (w : List ℕ) (ps : List Piece) → IfSome (free_form w true ps) IsWritten
free_written w ps = free_given (nat_lt 0 (length ps)) (stmt.Free w ps) tt

keyword_written : (k : Keyword) (ps : List Piece) → IfSome (form_by k true ps) IsWritten
keyword_written word.Include ps = free_map (λ path. stmt.Include path false) (λ x. tt) (alone path_of ps)
keyword_written word.CInclude ps = free_map (λ path. stmt.Include path true) (λ x. tt) (alone path_of ps)
keyword_written word.Prefix ps = prefix_written ps
keyword_written (word.Condition c) ps = cond_written c ps
keyword_written word.Define ps = define_written ps
keyword_written word.DevClass ps = if_map IsWritten stmt.Class (alone name_of ps) (if_alone IsName name_of named ps)
keyword_written word.DefPseudo ps = defpseudo_written ps
keyword_written word.Device ps = device_written ps
keyword_written word.Attach ps = attach_written ps
keyword_written word.No ps = no_stmt_written ps
keyword_written word.Options ps = free_map stmt.Options (λ x. tt) (each option_item (parted ps))
keyword_written word.MakeOptions ps = free_map stmt.MakeOptions (λ x. tt) (each make_item (parted ps))
keyword_written word.FileSystem ps = free_map stmt.FileSystems (λ x. tt) (names_of ps)
keyword_written word.PseudoDevice ps = pseudo_written ps
keyword_written word.MaxUsers ps = free_given _ (stmt.Checked (codes "maxusers")) tt
keyword_written word.MaxPartitions ps = free_given _ (stmt.Checked (codes "maxpartitions")) tt
keyword_written word.Machine ps = free_given _ (stmt.Checked (codes "machine")) tt
keyword_written word.Ident ps = free_given _ (stmt.Checked (codes "ident")) tt
keyword_written word.Config ps = free_given _ (stmt.Checked (codes "config")) tt
keyword_written word.DefFlag ps = free_written (codes "defflag") ps
keyword_written word.DefParam ps = free_written (codes "defparam") ps
keyword_written word.DefFs ps = free_written (codes "deffs") ps
keyword_written word.File ps = free_written (codes "file") ps
keyword_written word.DeviceMajor ps = free_written (codes "device-major") ps
keyword_written word.Version ps = free_written (codes "version") ps
keyword_written word.Obsolete ps = free_written (codes "obsolete") ps

rows_written : (ks : List Keyword) → RowsWritten (map row_by ks)
rows_written [] = tt
rows_written (k ∷ ks) = (keyword_written k, rows_written ks)

table_written : RowsWritten table
unfolding table
table_written = rows_written KEYWORDS

by_row_written : (o : Option TableRow) (p : Piece) (ps : List Piece) → IfSome o RowWritten → IfSome (by_row true o p ps) IsWritten
by_row_written (Some r) p ps h = h ps
by_row_written None p ps h = inst_written (p ∷ ps)

formed : (pieces : List Piece) → IfSome (form_of true pieces) IsWritten
unfolding form_of
formed [] = tt
formed (p ∷ ps) =
    if_both IsWritten (list_all (λ q. nat_le (length q.text) 1023) (p ∷ ps)) (by_row true (row_of table p) p ps) None
    (λ _. by_row_written (row_of table p) p ps (row_written table table_written p)) (λ _. tt)

-- a statement that some tokens are is written within the limits
pub form_written : (pieces : List Piece) (s : Stmt) → form_of true pieces ≡ Some s → IsWritten s
form_written pieces s h = let here : IfSome (Some s) IsWritten = rw h at (formed pieces) in here
