-- The words that a statement keeps for the tables, or for the names of files, are each within one line.
use Rattle.std.proofs.Common.{ℕ, Bool, true, false, cond, ◌&&◌, ◌||◌, Option, Some, None, List, [], ◌∷◌, length, drop, map}
use Rattle.std.specs.Prelude.{All, IfSome, ⊤, ◌==◌, codes, nat_le, nat_lt, option_and_then, option_map}
use Rattle.std.specs.List.{before_first, list_all, onto_first, slice_split}
use Rattle.std.proofs.lemmas.List.Elements.{All-cons, All-head, All-nil, All-tail}
use Rattle.cf_text.specs.Shapes.{ends_with_digit, is_written}
use Rattle.cf_types.specs.declared.keyword.Keyword.{Keyword}
use Rattle.cf_types.specs.declared.keyword.Keyword.TheVariants as word
use Rattle.cf_types.specs.declared.keyword.TheConstants.{KEYWORDS}
use Rattle.cf_types.specs.declared.stmt.CondWord.{CondWord}
use Rattle.cf_types.specs.declared.stmt.CondWord.TheVariants as condition
use Rattle.cf_types.specs.declared.stmt.Item.{Item}
use Rattle.cf_types.specs.declared.stmt.ItemKind.TheVariants as of_kind
use Rattle.cf_types.specs.declared.stmt.Piece.{Piece}
use Rattle.cf_types.specs.declared.stmt.Stmt.{Stmt}
use Rattle.cf_types.specs.declared.stmt.Stmt.TheVariants as stmt
use Rattle.cf_types.specs.declared.stmt.UnitMark.{UnitMark}
use Rattle.cf_types.specs.declared.tables.Locator.{Locator}
use Rattle.config_rules.specs.Form.{TableRow, alone, at_place, attach_stmt, attached, by_row, bytes_of, cond_form, count_of, defining, device_stmt, each, form_of, free_form, inst_stmt, is_chunk, is_mark, is_text, is_word, locators_of, make_item, name_of, names_of, needs_of, no_inst, no_stmt, option_item, pairs_of, parted, parted_at, path_of, place_of, places_and_name, prefix_stmt, pseudo_stmt, row_by, row_of, table, unit_chunk, with_body}
use Rattle.config_rules.proofs.GivenLaws.{if_given}
use Rattle.config_rules.proofs.Parts.{cond_both}
use Rattle.replay_laws.specs.OneLine.{IsItemLine, IsOneLine}
use Rattle.replay_laws.proofs.Words.{HasLineText, onto_all}

abbrev pub HasLines : Stmt → Type 0
HasLines (stmt.Include path optional) = IsOneLine path
HasLines (stmt.Prefix path) = IfSome path IsOneLine
HasLines (stmt.Options items) = All IsItemLine items
HasLines (stmt.MakeOptions items) = All IsItemLine items
HasLines (stmt.FileSystems names) = All IsOneLine names
HasLines (stmt.PseudoDevice name count) = IsOneLine name
HasLines _ = ⊤

-- ---- what an option gives, if it gives something

if_any : {A : Type 0} (P : A → Type 0) (o : Option A) → ((x : A) → P x) → IfSome o P
if_any P None h = tt
if_any P (Some x) h = h x

if_map : {A B : Type 0} (Q : A → Type 0) (P : B → Type 0) (f : A → B) (o : Option A) → IfSome o Q → ((x : A) → Q x → P (f x)) → IfSome (option_map f o) P
if_map Q P f None q h = tt
if_map Q P f (Some x) q h = h x q

if_then : {A B : Type 0} (Q : A → Type 0) (P : B → Type 0) (f : A → Option B) (o : Option A) → IfSome o Q → ((x : A) → Q x → IfSome (f x) P) → IfSome (option_and_then f o) P
if_then Q P f None q h = tt
if_then Q P f (Some x) q h = h x q

-- of whatever it gives
map_any : {A B : Type 0} (P : B → Type 0) (f : A → B) (o : Option A) → ((x : A) → P (f x)) → IfSome (option_map f o) P
map_any P f None h = tt
map_any P f (Some x) h = h x

then_any : {A B : Type 0} (P : B → Type 0) (f : A → Option B) (o : Option A) → ((x : A) → IfSome (f x) P) → IfSome (option_and_then f o) P
then_any P f None h = tt
then_any P f (Some x) h = h x

if_cond : {A : Type 0} (P : A → Type 0) (b : Bool) (x y : Option A) → IfSome x P → IfSome y P → IfSome (cond b x y) P
if_cond P true x y p q = p
if_cond P false x y p q = q

if_each : {A B : Type 0} (H : A → Type 0) (P : B → Type 0) (f : A → Option B) → ((x : A) → H x → IfSome (f x) P) → (xs : List A) → All H xs → IfSome (each f xs) (All P)
if_each H P f h [] all = All-nil P
if_each H P f h (x ∷ xs) all =
    if_then P (All P) (λ y. option_map (λ ys. y ∷ ys) (each f xs)) (f x) (h x (All-head H x xs all))
    (λ y here. if_map (All P) (All P) (λ ys. y ∷ ys) (each f xs) (if_each H P f h xs (All-tail H x xs all)) (λ ys rest. All-cons P y ys here rest))

if_alone : {A : Type 0} (P : A → Type 0) (f : Piece → Option A) → ((p : Piece) → HasLineText p → IfSome (f p) P) → (ps : List Piece) → All HasLineText ps → IfSome (alone f ps) P
if_alone P f h [] all = tt
if_alone P f h (p ∷ []) all = h p (All-head HasLineText p [] all)
if_alone P f h (p ∷ q ∷ ps) all = tt

-- ---- words

all_parted : {X : Type 0} (P : X → Type 0) (test : X → Bool) (xs : List X) → All P xs → All (All P) (slice_split test xs)
all_parted P test [] all = All-cons (All P) [] [] (All-nil P) (All-nil (All P))
all_parted P test (x ∷ xs) all = by (test x) (all_parted P test xs (All-tail P x xs all))
  where
    by : (b : Bool) → All (All P) (slice_split test xs) → All (All P) (cond b ([] ∷ slice_split test xs) (onto_first x (slice_split test xs)))
    by true later = All-cons (All P) [] (slice_split test xs) (All-nil P) later
    by false later = onto_all P x (slice_split test xs) (All-head P x xs all) later

name_lined : (p : Piece) → HasLineText p → IfSome (name_of p) IsOneLine
name_lined p h = if_given IsOneLine (is_chunk p && is_written p.text) p.text (λ _. h)

bytes_lined : (p : Piece) → HasLineText p → IfSome (bytes_of p) IsOneLine
bytes_lined p h = if_given IsOneLine (is_chunk p || is_text p) p.text (λ _. h)

path_lined : (p : Piece) → HasLineText p → IfSome (path_of p) IsOneLine
path_lined p h = if_given IsOneLine ((is_chunk p || is_text p) && nat_lt 0 (length p.text)) p.text (λ _. h)

names_lined : (ps : List Piece) → All HasLineText ps → IfSome (names_of ps) (All IsOneLine)
names_lined ps all = if_each (All HasLineText) IsOneLine (alone name_of) (if_alone IsOneLine name_of name_lined) (parted ps) (all_parted HasLineText (is_mark (codes ",")) ps all)

-- ---- items

-- a name with a value
valued : (make : List ℕ → List ℕ → Item) (n v : Piece) → ((name value : List ℕ) → IsOneLine name → IsOneLine value → IsItemLine (make name value)) → HasLineText n → HasLineText v
    → IfSome (option_and_then (λ name. option_map (make name) (bytes_of v)) (name_of n)) IsItemLine
valued make n v h name value =
    if_then IsOneLine IsItemLine (λ x. option_map (make x) (bytes_of v)) (name_of n) (name_lined n name)
    (λ x here. if_map IsOneLine IsItemLine (make x) (bytes_of v) (bytes_lined v value) (λ y there. h x y here there))

option_lined : (ps : List Piece) → All HasLineText ps → IfSome (option_item ps) IsItemLine
option_lined [] all = tt
option_lined (n ∷ []) all = if_map IsOneLine IsItemLine _ (name_of n) (name_lined n (All-head HasLineText n [] all)) (λ x here. (here, tt))
option_lined (n ∷ v ∷ []) all = tt
option_lined (n ∷ equals ∷ v ∷ []) all =
    let behind = All-tail HasLineText n (equals ∷ v ∷ []) all in
    if_cond IsItemLine (is_mark (codes "=") equals) _ None
    (valued _ n v (λ x y here there. (here, there)) (All-head HasLineText n (equals ∷ v ∷ []) all) (All-head HasLineText v [] (All-tail HasLineText equals (v ∷ []) behind))) tt
option_lined (a ∷ b ∷ c ∷ d ∷ ps) all = tt

make_lined : (ps : List Piece) → All HasLineText ps → IfSome (make_item ps) IsItemLine
make_lined [] all = tt
make_lined (n ∷ []) all = tt
make_lined (n ∷ v ∷ []) all = tt
make_lined (n ∷ equals ∷ v ∷ []) all =
    let behind = All-tail HasLineText n (equals ∷ v ∷ []) all in
    if_cond IsItemLine (is_mark (codes "=") equals || is_mark (codes "+=") equals) _ None
    (valued _ n v (λ x y here there. (here, there)) (All-head HasLineText n (equals ∷ v ∷ []) all) (All-head HasLineText v [] (All-tail HasLineText equals (v ∷ []) behind))) tt
make_lined (a ∷ b ∷ c ∷ d ∷ ps) all = tt

items_lined : (f : List Piece → Option Item) → ((ps : List Piece) → All HasLineText ps → IfSome (f ps) IsItemLine) → (ps : List Piece) → All HasLineText ps → IfSome (each f (parted ps)) (All IsItemLine)
items_lined f h ps all = if_each (All HasLineText) IsItemLine f h (parted ps) (all_parted HasLineText (is_mark (codes ",")) ps all)

-- ---- statements that keep other words

defined : (make : List ℕ → Option (List Locator) → List (List ℕ) → Stmt) → ((n : List ℕ) (l : Option (List Locator)) (d : List (List ℕ)) → HasLines (make n l d)) → (ps : List Piece)
    → IfSome (defining true make ps) HasLines
defined make h [] = tt
defined make h (n ∷ ps) = then_any HasLines (λ name. with_body true (make name) ps) (name_of n) (λ name. body name ps)
  where
    body : (name : List ℕ) (qs : List Piece) → IfSome (with_body true (make name) qs) HasLines
    body name [] = h name None []
    body name (q ∷ qs) =
        if_cond HasLines (is_mark (codes "{") q) _ (option_map (make name None) (needs_of (q ∷ qs)))
        (then_any HasLines _ (parted_at (codes "}") qs) (λ parts.
        then_any HasLines (λ locs. option_map (make name (Some locs)) (needs_of parts.1)) (locators_of true parts.0) (λ locs.
        map_any HasLines (make name (Some locs)) (needs_of parts.1) (λ needs. h name (Some locs) needs))))
        (map_any HasLines (make name None) (needs_of (q ∷ qs)) (λ needs. h name None needs))

device_lined : (ps : List Piece) → IfSome (device_stmt true ps) HasLines
device_lined [] = tt
device_lined (n ∷ ps) = if_cond HasLines (ends_with_digit n.text) None (defining true stmt.Device (n ∷ ps)) tt (defined stmt.Device (λ n l d. tt) (n ∷ ps))

attached_lined : (device : List ℕ) (needs : List (List ℕ)) (ps : List Piece) → IfSome (attached device needs ps) HasLines
attached_lined device needs ps = map_any HasLines _ (places_and_name ps) (λ a. tt)

attach_lined : (ps : List Piece) → IfSome (attach_stmt ps) HasLines
attach_lined [] = tt
attach_lined (d ∷ []) = tt
attach_lined (d ∷ at ∷ ps) =
    let front = before_first (is_mark (codes ":")) ps in
    if_cond HasLines (is_word (codes "at") at) _ None
    (then_any HasLines _ (name_of d) (λ device. then_any HasLines (λ needs. attached device needs front) (needs_of (drop (length front) ps)) (λ needs. attached_lined device needs front))) tt

inst_lined : (ps : List Piece) → IfSome (inst_stmt true ps) HasLines
inst_lined [] = tt
inst_lined (u ∷ []) = tt
inst_lined (u ∷ at ∷ []) = tt
inst_lined (u ∷ at ∷ x ∷ ps) =
    if_cond HasLines (is_word (codes "at") at) _ None
    (then_any HasLines _ (unit_chunk true u) (λ unit. then_any HasLines _ (place_of true x) (λ place. map_any HasLines _ (pairs_of true ps) (λ rest. tt)))) tt

no_inst_lined : (base : List ℕ) (mark : UnitMark) (ps : List Piece) → IfSome (no_inst true base mark ps) HasLines
no_inst_lined base mark [] = tt
no_inst_lined base mark (p ∷ ps) = map_any HasLines (λ at. stmt.NoInst base mark (Some at)) (at_place true (p ∷ ps)) (λ at. tt)

no_lined : (ps : List Piece) → IfSome (no_stmt true ps) HasLines
no_lined [] = tt
no_lined (p ∷ ps) =
    if_cond HasLines (is_word (codes "options") p) _ _ (map_any HasLines (stmt.NoItems of_kind.Options) (names_of ps) (λ x. tt))
    (if_cond HasLines (is_word (codes "makeoptions") p) _ _ (map_any HasLines (stmt.NoItems of_kind.MakeOptions) (names_of ps) (λ x. tt))
    (if_cond HasLines (is_word (codes "file-system") p) _ _ (map_any HasLines (stmt.NoItems of_kind.FileSystem) (names_of ps) (λ x. tt))
    (if_cond HasLines (is_word (codes "pseudo-device") p) _ _ (map_any HasLines (λ name. stmt.NoItems of_kind.PseudoDevice (name ∷ [])) (alone name_of ps) (λ x. tt))
    (if_cond HasLines (is_word (codes "device") p) _ _ (map_any HasLines stmt.NoDevice (at_place true ps) (λ x. tt))
    (then_any HasLines _ (unit_chunk true p) (λ u. no_inst_lined u.0 u.1 ps))))))

pseudo_lined : (ps : List Piece) → All HasLineText ps → IfSome (pseudo_stmt true ps) HasLines
pseudo_lined [] all = tt
pseudo_lined (n ∷ []) all = if_map IsOneLine HasLines (λ name. stmt.PseudoDevice name 1) (name_of n) (name_lined n (All-head HasLineText n [] all)) (λ name here. here)
pseudo_lined (n ∷ v ∷ []) all =
    if_then IsOneLine HasLines (λ name. option_map (stmt.PseudoDevice name) (count_of true v)) (name_of n) (name_lined n (All-head HasLineText n (v ∷ []) all))
    (λ name here. map_any HasLines (stmt.PseudoDevice name) (count_of true v) (λ count. here))
pseudo_lined (a ∷ b ∷ c ∷ ps) all = tt

prefix_lined : (ps : List Piece) → All HasLineText ps → IfSome (prefix_stmt ps) HasLines
prefix_lined [] all = tt
prefix_lined (p ∷ ps) all = if_map IsOneLine HasLines (λ path. stmt.Prefix (Some path)) (alone path_of (p ∷ ps)) (if_alone IsOneLine path_of path_lined (p ∷ ps) all) (λ path here. here)

included : (optional : Bool) (ps : List Piece) → All HasLineText ps → IfSome (option_map (λ path. stmt.Include path optional) (alone path_of ps)) HasLines
included optional ps all = if_map IsOneLine HasLines (λ path. stmt.Include path optional) (alone path_of ps) (if_alone IsOneLine path_of path_lined ps all) (λ path here. here)

cond_lined : (c : CondWord) (ps : List Piece) → IfSome (cond_form c ps) HasLines
cond_lined condition.IfDef ps = map_any HasLines (λ name. stmt.Cond condition.IfDef (Some name)) (alone name_of ps) (λ x. tt)
cond_lined condition.IfNDef ps = map_any HasLines (λ name. stmt.Cond condition.IfNDef (Some name)) (alone name_of ps) (λ x. tt)
cond_lined condition.ElifDef ps = map_any HasLines (λ name. stmt.Cond condition.ElifDef (Some name)) (alone name_of ps) (λ x. tt)
cond_lined condition.ElifNDef ps = map_any HasLines (λ name. stmt.Cond condition.ElifNDef (Some name)) (alone name_of ps) (λ x. tt)
cond_lined condition.Else ps = if_given HasLines (length ps == 0) (stmt.Cond condition.Else None) (λ _. tt)
cond_lined condition.EndIf ps = if_given HasLines (length ps == 0) (stmt.Cond condition.EndIf None) (λ _. tt)

free_lined : (w : List ℕ) (ps : List Piece) → IfSome (free_form w true ps) HasLines
free_lined w ps = if_given HasLines (nat_lt 0 (length ps)) (stmt.Free w ps) (λ _. tt)

-- ---- the table

abbrev RowLined : TableRow → Type 0
RowLined r = (ps : List Piece) → All HasLineText ps → IfSome (r.form true ps) HasLines

keyword_lined : (k : Keyword) → RowLined (row_by k)
keyword_lined word.Include ps all = included false ps all
keyword_lined word.CInclude ps all = included true ps all
keyword_lined word.Prefix ps all = prefix_lined ps all
keyword_lined (word.Condition c) ps all = cond_lined c ps
keyword_lined word.Define ps all = defined stmt.Define (λ n l d. tt) ps
keyword_lined word.DevClass ps all = map_any HasLines stmt.Class (alone name_of ps) (λ x. tt)
keyword_lined word.DefPseudo ps all = defined stmt.DefPseudo (λ n l d. tt) ps
keyword_lined word.Device ps all = device_lined ps
keyword_lined word.Attach ps all = attach_lined ps
keyword_lined word.No ps all = no_lined ps
keyword_lined word.Options ps all = if_map (All IsItemLine) HasLines stmt.Options (each option_item (parted ps)) (items_lined option_item option_lined ps all) (λ items h. h)
keyword_lined word.MakeOptions ps all = if_map (All IsItemLine) HasLines stmt.MakeOptions (each make_item (parted ps)) (items_lined make_item make_lined ps all) (λ items h. h)
keyword_lined word.FileSystem ps all = if_map (All IsOneLine) HasLines stmt.FileSystems (names_of ps) (names_lined ps all) (λ names h. h)
keyword_lined word.PseudoDevice ps all = pseudo_lined ps all
keyword_lined word.MaxUsers ps all = if_given HasLines _ (stmt.Checked (codes "maxusers")) (λ _. tt)
keyword_lined word.MaxPartitions ps all = if_given HasLines _ (stmt.Checked (codes "maxpartitions")) (λ _. tt)
keyword_lined word.Machine ps all = if_given HasLines _ (stmt.Checked (codes "machine")) (λ _. tt)
keyword_lined word.Ident ps all = if_given HasLines _ (stmt.Checked (codes "ident")) (λ _. tt)
keyword_lined word.Config ps all = if_given HasLines _ (stmt.Checked (codes "config")) (λ _. tt)
keyword_lined word.DefFlag ps all = free_lined (codes "defflag") ps
keyword_lined word.DefParam ps all = free_lined (codes "defparam") ps
keyword_lined word.DefFs ps all = free_lined (codes "deffs") ps
keyword_lined word.File ps all = free_lined (codes "file") ps
keyword_lined word.DeviceMajor ps all = free_lined (codes "device-major") ps
keyword_lined word.Version ps all = free_lined (codes "version") ps
keyword_lined word.Obsolete ps all = free_lined (codes "obsolete") ps

rows_lined : (ks : List Keyword) (p : Piece) → IfSome (row_of (map row_by ks) p) RowLined
rows_lined [] p = tt
rows_lined (k ∷ ks) p = cond_both (λ o. IfSome o RowLined) (is_word (row_by k).word p) (Some (row_by k)) (row_of (map row_by ks) p) (λ _. keyword_lined k) (λ _. rows_lined ks p)

table_lined : (p : Piece) → IfSome (row_of table p) RowLined
unfolding table
table_lined p = rows_lined KEYWORDS p

row_gives : (o : Option TableRow) (p : Piece) (ps : List Piece) → IfSome o RowLined → All HasLineText ps → IfSome (by_row true o p ps) HasLines
row_gives (Some r) p ps h all = h ps all
row_gives None p ps h all = inst_lined (p ∷ ps)

-- a statement of words of one line
pub form_lined : (ps : List Piece) → All HasLineText ps → IfSome (form_of true ps) HasLines
unfolding form_of
form_lined [] all = tt
form_lined (p ∷ ps) all =
    if_cond HasLines (list_all (λ q. nat_le (length q.text) 1023) (p ∷ ps)) (by_row true (row_of table p) p ps) None
    (row_gives (row_of table p) p ps (table_lined p) (All-tail HasLineText p ps all)) tt
