-- The statement that a list of tokens is, one case for each row of the table of statements. The statements are those
-- of config(5). Their exact forms, the limits on lengths and numbers, and the codes are this project's profile.
use Rattle.std.specs.Prelude.{◌≡◌, ℕ, Bool, true, false, not, ◌&&◌, ◌||◌, ◌==◌, nat_lt, nat_le, if◌then◌else◌, List, [], ◌∷◌, length, take, drop, map, bytes_eq, codes, Option, Some, None, is_some, is_none, option_map, option_and_then, ℤ, pos, nat_abs, int_le}
use Rattle.std.specs.List.{list_all, list_any, slice_split, before_first, after_first}
use Rattle.cf_types.specs.declared.code.configuration.TheConstants.{OUT_OF_RANGE, NO_FORM, LEFT_OUT}
use Rattle.cf_types.specs.declared.keyword.Keyword.{Keyword}
use Rattle.cf_types.specs.declared.keyword.Keyword.TheVariants as word
use Rattle.cf_types.specs.declared.keyword.TheConstants.{KEYWORDS}
use Rattle.cf_types.specs.declared.stmt.TokenKind.{TokenKind}
use Rattle.cf_types.specs.declared.stmt.TokenKind.TheVariants as kind
use Rattle.cf_types.specs.declared.stmt.Piece.{Piece}
use Rattle.cf_types.specs.declared.stmt.UnitMark.{UnitMark}
use Rattle.cf_types.specs.declared.stmt.UnitMark.TheVariants.{Fixed, Star}
use Rattle.cf_types.specs.declared.stmt.AtSpec.{AtSpec}
use Rattle.cf_types.specs.declared.stmt.AtSpec.TheVariants.{Root, Named}
use Rattle.cf_types.specs.declared.stmt.GivenLoc.{GivenLoc}
use Rattle.cf_types.specs.declared.stmt.CondWord.{CondWord}
use Rattle.cf_types.specs.declared.stmt.CondWord.TheVariants as condition
use Rattle.cf_types.specs.declared.stmt.ItemKind.TheVariants as of_kind
use Rattle.cf_types.specs.declared.stmt.Item.{Item}
use Rattle.cf_types.specs.declared.stmt.Stmt.{Stmt}
use Rattle.cf_types.specs.declared.stmt.Stmt.TheVariants as stmt
use Rattle.cf_types.specs.declared.tables.Locator.{Locator}
use Rattle.cf_text.specs.Shapes.{is_name, is_written, ends_with_digit, number, in_range, base_and_unit, base_before}

-- ---- single tokens

-- a chunk
abbrev pub is_chunk : Piece → Bool
is_chunk p = is_chunk_kind p.kind
  where
    is_chunk_kind : TokenKind → Bool
    is_chunk_kind kind.Chunk = true
    is_chunk_kind _ = false

-- a string
abbrev pub is_text : Piece → Bool
is_text p = is_text_kind p.kind
  where
    is_text_kind : TokenKind → Bool
    is_text_kind kind.Text = true
    is_text_kind _ = false

-- the mark of this spelling
abbrev pub is_mark : List ℕ → Piece → Bool
is_mark mark p = is_mark_kind p.kind && bytes_eq p.text mark
  where
    is_mark_kind : TokenKind → Bool
    is_mark_kind kind.Mark = true
    is_mark_kind _ = false

-- the chunk of this spelling
abbrev pub is_word : List ℕ → Piece → Bool
is_word word p = is_chunk p && bytes_eq p.text word

-- a chunk that is one of these words
abbrev pub is_among : List (List ℕ) → Piece → Bool
is_among words p = list_any (λ w. is_word w p) words

-- a value where the test holds
abbrev pub given : {A : Type 0} → Bool → A → Option A
given test x = if test then Some x else None

-- what stands before the first of these marks, and what stands behind it
abbrev pub parted_at : List ℕ → List Piece → Option (List Piece × List Piece)
parted_at mark ps = given (list_any (is_mark mark) ps) (before_first (is_mark mark) ps, after_first (is_mark mark) ps)

-- `N`
abbrev pub name_of : Piece → Option (List ℕ)
name_of p = given (is_chunk p && is_written p.text) p.text

-- a number in its range; where sizes don't count, one out of its range stands for 0
abbrev pub fitted : {A : Type 0} → Bool → Bool → A → A → Option A
fitted sized fits x zero_of = if fits then Some x else given (not sized) zero_of

-- `V`
abbrev pub value_of : Bool → Piece → Option ℤ
value_of sized p = if is_chunk p then option_and_then (λ v. fitted sized (in_range v) v (pos 0)) (number p.text) else None

-- a chunk or a string
abbrev pub bytes_of : Piece → Option (List ℕ)
bytes_of p = given (is_chunk p || is_text p) p.text

-- `P`
abbrev pub path_of : Piece → Option (List ℕ)
path_of p = given ((is_chunk p || is_text p) && nat_lt 0 (length p.text)) p.text

-- a base and a unit up to 65535
abbrev pub fixed_of : Bool → Piece → Option (List ℕ × ℕ)
fixed_of sized p = if is_chunk p then option_and_then (λ u. fitted sized (nat_le u.1 65535) u (u.0, 0)) (base_and_unit p.text) else None

-- a base before this mark
abbrev pub marked_of : ℕ → Piece → Option (List ℕ)
marked_of mark p = if is_chunk p then base_before mark p.text else None

-- the second, where there is no first
infixr 5 ◌or◌
abbrev pub ◌or◌ : {A : Type 0} → Option A → Option A → Option A
(Some x) or y = Some x
None or y = y

-- `U`
abbrev pub unit_chunk : Bool → Piece → Option (List ℕ × UnitMark)
unit_chunk sized p = option_map (λ u. (u.0, Fixed u.1)) (fixed_of sized p) or option_map (λ base. (base, Star)) (marked_of 42 p)

-- `X`
abbrev pub place_of : Bool → Piece → Option AtSpec
place_of sized p =
    given (is_word (codes "root") p) Root
    or (option_map (λ u. Named u.0 (Some u.1)) (fixed_of sized p)
    or option_map (λ base. Named base None) (marked_of 63 p))

-- ---- lists of them

-- what each gives, if each gives something
abbrev pub each : {A B : Type 0} → (A → Option B) → List A → Option (List B)
each f [] = Some []
each f (x ∷ xs) = option_and_then (λ y. option_map (λ ys. y ∷ ys) (each f xs)) (f x)

-- the parts between commas
abbrev pub parted : List Piece → List (List Piece)
parted ps = slice_split (is_mark (codes ",")) ps

-- one token alone
abbrev pub alone : {A : Type 0} → (Piece → Option A) → List Piece → Option A
alone f (p ∷ []) = f p
alone f _ = None

-- `N, ..`
abbrev pub names_of : List Piece → Option (List (List ℕ))
names_of ps = each (alone name_of) (parted ps)

-- `N .. N`
abbrev pub name_row : List Piece → Option (List (List ℕ))
name_row ps = if nat_lt 0 (length ps) then each name_of ps else None

-- ---- locators

-- the name of a locator: `flags` is none
abbrev pub locator_name : Piece → Option (List ℕ)
locator_name p = if is_word (codes "flags") p then None else name_of p

-- a locator of this name
abbrev pub locator : List ℕ → Option ℤ → Bool → Locator
locator name default optional = record { name = name; default = default; optional = optional }

-- `N = V`
abbrev pub with_default : Bool → Bool → Piece → Piece → Piece → Option Locator
with_default sized optional n equals v =
    if is_mark (codes "=") equals
    then option_and_then (λ name. option_map (λ value. locator name (Some value) optional) (value_of sized v)) (locator_name n)
    else None

-- `[N = V]`
abbrev pub bracketed : Bool → Piece → Piece → Piece → Piece → Piece → Option Locator
bracketed sized open_bracket n equals v close_bracket =
    if is_mark (codes "[") open_bracket && is_mark (codes "]") close_bracket then with_default sized true n equals v else None

-- `N`, `N = V` or `[N = V]`
abbrev pub locator_of : Bool → List Piece → Option Locator
locator_of sized (n ∷ []) = option_map (λ name. locator name None false) (locator_name n)
locator_of sized (n ∷ equals ∷ v ∷ []) = with_default sized false n equals v
locator_of sized (open_bracket ∷ n ∷ equals ∷ v ∷ close_bracket ∷ []) = bracketed sized open_bracket n equals v close_bracket
locator_of sized _ = None

-- `L`
abbrev pub locators_of : Bool → List Piece → Option (List Locator)
locators_of sized [] = Some []
locators_of sized (p ∷ ps) = option_and_then (λ locs. given (nat_le (length locs) 16) locs) (each (locator_of sized) (parted (p ∷ ps)))

-- `[: N, ..]`
abbrev pub needs_of : List Piece → Option (List (List ℕ))
needs_of [] = Some []
needs_of (p ∷ ps) = if is_mark (codes ":") p then names_of ps else None

-- `[{L}] [: N, ..]`, as `make` builds it
abbrev pub with_body : Bool → (Option (List Locator) → List (List ℕ) → Stmt) → List Piece → Option Stmt
with_body sized make [] = Some (make None [])
with_body sized make (p ∷ ps) =
    if is_mark (codes "{") p
    then option_and_then (λ parts.
    option_and_then (λ locs. option_map (make (Some locs)) (needs_of parts.1)) (locators_of sized parts.0))
    (parted_at (codes "}") ps)
    else option_map (make None) (needs_of (p ∷ ps))

-- `N` and a body
abbrev pub defining : Bool → (List ℕ → Option (List Locator) → List (List ℕ) → Stmt) → List Piece → Option Stmt
defining sized make [] = None
defining sized make (n ∷ ps) = option_and_then (λ name. with_body sized (make name) ps) (name_of n)

-- ---- one case for each row

-- `N-or-root, .. [with N]`: the places, and the attachment's name, if it is written
abbrev pub places_and_name : List Piece → Option (List (List ℕ) × Option (List ℕ))
places_and_name [] = None
places_and_name (n ∷ []) = option_map (λ place. (place ∷ [], None)) (name_of n)
places_and_name (n ∷ m ∷ ps) =
    option_and_then (λ place.
    if is_mark (codes ",") m then option_map (λ rest. (place ∷ rest.0, rest.1)) (places_and_name ps)
    else (if is_word (codes "with") m then option_map (λ name. (place ∷ [], Some name)) (alone name_of ps)
    else None))
    (name_of n)

-- the attachment of a device that needs these attributes
abbrev pub attached : List ℕ → List (List ℕ) → List Piece → Option Stmt
attached device needs ps = option_map (λ a. stmt.Attach device a.0 a.1 needs) (places_and_name ps)

-- `attach N at N-or-root, .. [with N] [: N, ..]`, behind its word
abbrev pub attach_stmt : List Piece → Option Stmt
attach_stmt (d ∷ at ∷ ps) =
    if is_word (codes "at") at
    then option_and_then (λ device.
    option_and_then (λ needs. attached device needs (before_first (is_mark (codes ":")) ps)) (needs_of (drop (length (before_first (is_mark (codes ":")) ps)) ps)))
    (name_of d)
    else None
attach_stmt _ = None

-- `V` or `?`
abbrev pub given_value : Bool → Piece → Option (Option ℤ)
given_value sized v = given (is_word (codes "?") v) None or option_map (λ value. Some value) (value_of sized v)

-- `N V` or `N ?`
abbrev pub pair_of : Bool → Piece → Piece → Option GivenLoc
pair_of sized n v = option_and_then (λ name. option_map (λ value. record { name = name; value = value }) (given_value sized v)) (name_of n)

-- the pairs `N V` and `N ?`, then optionally `flags V`
abbrev pub pairs_of : Bool → List Piece → Option (List GivenLoc × ℤ)
pairs_of sized [] = Some ([], pos 0)
pairs_of sized (n ∷ []) = None
pairs_of sized (n ∷ v ∷ ps) =
    if is_word (codes "flags") n then option_and_then (λ value. given (length ps == 0) ([], value)) (value_of sized v)
    else option_and_then (λ pair. option_map (λ rest. (pair ∷ rest.0, rest.1)) (pairs_of sized ps)) (pair_of sized n v)

-- `U at X` and the pairs
abbrev pub inst_stmt : Bool → List Piece → Option Stmt
inst_stmt sized (u ∷ at ∷ x ∷ ps) =
    if is_word (codes "at") at
    then option_and_then (λ unit. option_and_then (λ place.
    option_map (λ rest. stmt.Inst unit.0 unit.1 place rest.0 rest.1) (pairs_of sized ps))
    (place_of sized x)) (unit_chunk sized u)
    else None
inst_stmt sized _ = None

-- `at X`
abbrev pub at_place : Bool → List Piece → Option AtSpec
at_place sized (at ∷ x ∷ []) = if is_word (codes "at") at then place_of sized x else None
at_place sized _ = None

-- `U` or `U at X`, behind the unit
abbrev pub no_inst : Bool → List ℕ → UnitMark → List Piece → Option Stmt
no_inst sized base mark [] = Some (stmt.NoInst base mark None)
no_inst sized base mark (p ∷ ps) = option_map (λ at. stmt.NoInst base mark (Some at)) (at_place sized (p ∷ ps))

-- `no` and what it takes back
abbrev pub no_stmt : Bool → List Piece → Option Stmt
no_stmt sized [] = None
no_stmt sized (p ∷ ps) =
    if is_word (codes "options") p then option_map (stmt.NoItems of_kind.Options) (names_of ps)
    else (if is_word (codes "makeoptions") p then option_map (stmt.NoItems of_kind.MakeOptions) (names_of ps)
    else (if is_word (codes "file-system") p then option_map (stmt.NoItems of_kind.FileSystem) (names_of ps)
    else (if is_word (codes "pseudo-device") p then option_map (λ name. stmt.NoItems of_kind.PseudoDevice (name ∷ [])) (alone name_of ps)
    else (if is_word (codes "device") p then option_map stmt.NoDevice (at_place sized ps)
    else option_and_then (λ u. no_inst sized u.0 u.1 ps) (unit_chunk sized p)))))

-- an option or makeoption of this name
abbrev pub item : List ℕ → Bool → Option (List ℕ) → Item
item name plus value = record { name = name; plus = plus; value = value }

-- `N` or `N = VALUE`
abbrev pub option_item : List Piece → Option Item
option_item (n ∷ []) = option_map (λ name. item name false None) (name_of n)
option_item (n ∷ equals ∷ v ∷ []) =
    if is_mark (codes "=") equals
    then option_and_then (λ name. option_map (λ value. item name false (Some value)) (bytes_of v)) (name_of n)
    else None
option_item _ = None

-- `N = VALUE` or `N += VALUE`; a chunk is never empty
abbrev pub make_item : List Piece → Option Item
make_item (n ∷ equals ∷ v ∷ []) =
    if is_mark (codes "=") equals || is_mark (codes "+=") equals
    then option_and_then (λ name. option_map (λ value. item name (is_mark (codes "+=") equals) (Some value)) (bytes_of v)) (name_of n)
    else None
make_item _ = None

-- from 1 to 65535
abbrev pub count_of : Bool → Piece → Option ℕ
count_of sized p = option_and_then (λ v. fitted sized (int_le (pos 1) v && int_le v (pos 65535)) (nat_abs v) 0) (value_of sized p)

-- `N [V]`
abbrev pub pseudo_stmt : Bool → List Piece → Option Stmt
pseudo_stmt sized (n ∷ []) = option_map (λ name. stmt.PseudoDevice name 1) (name_of n)
pseudo_stmt sized (n ∷ v ∷ []) = option_and_then (λ name. option_map (stmt.PseudoDevice name) (count_of sized v)) (name_of n)
pseudo_stmt sized _ = None

-- what is checked and left out of the tables
abbrev pub checked : List ℕ → Bool → Option Stmt
checked word holds = given holds (stmt.Checked word)

-- each is a number
abbrev pub are_values : Bool → List Piece → Bool
are_values sized ps = list_all (λ p. is_some (value_of sized p)) ps

-- one or more chunks
abbrev pub are_chunks : List Piece → Bool
are_chunks ps = nat_lt 0 (length ps) && list_all is_chunk ps

-- `config N root on` and one or more chunks
abbrev pub is_config : List Piece → Bool
is_config (n ∷ root ∷ on ∷ ps) = (is_some (name_of n) && is_word (codes "root") root && is_word (codes "on") on) && are_chunks ps
is_config _ = false

-- a condition word that takes a name
abbrev pub cond_stmt : CondWord → List Piece → Option Stmt
cond_stmt word ps = option_map (λ name. stmt.Cond word (Some name)) (alone name_of ps)

-- a condition word that stands alone
abbrev pub cond_word : CondWord → List Piece → Option Stmt
cond_word word ps = given (length ps == 0) (stmt.Cond word None)

-- what may stand behind a condition word
abbrev pub cond_form : CondWord → List Piece → Option Stmt
cond_form condition.Else = cond_word condition.Else
cond_form condition.EndIf = cond_word condition.EndIf
cond_form word = cond_stmt word

-- how a condition word is written
abbrev pub condition_spelling : CondWord → List ℕ
condition_spelling condition.IfDef = codes "ifdef"
condition_spelling condition.IfNDef = codes "ifndef"
condition_spelling condition.ElifDef = codes "elifdef"
condition_spelling condition.ElifNDef = codes "elifndef"
condition_spelling condition.Else = codes "else"
condition_spelling condition.EndIf = codes "endif"

-- `prefix` alone takes the top prefix away
abbrev pub prefix_stmt : List Piece → Option Stmt
prefix_stmt [] = Some (stmt.Prefix None)
prefix_stmt (p ∷ ps) = option_map (λ path. stmt.Prefix (Some path)) (alone path_of (p ∷ ps))

-- the name of a device does not end with a digit
abbrev pub device_stmt : Bool → List Piece → Option Stmt
device_stmt sized [] = None
device_stmt sized (n ∷ ps) = if ends_with_digit n.text then None else defining sized stmt.Device (n ∷ ps)

-- a row of the table: its word, and the statement that the tokens behind the word are
pub record TableRow : Type 0 where
  pub word : List ℕ
  pub form : Bool → List Piece → Option Stmt

-- a row of the table
abbrev pub row : List ℕ → (Bool → List Piece → Option Stmt) → TableRow
row word form = record { word = word; form = form }

-- how the word is written with which a statement begins
abbrev pub spelling_of : Keyword → List ℕ
spelling_of word.Include = codes "include"
spelling_of word.CInclude = codes "cinclude"
spelling_of word.Prefix = codes "prefix"
spelling_of (word.Condition c) = condition_spelling c
spelling_of word.Define = codes "define"
spelling_of word.DevClass = codes "devclass"
spelling_of word.DefPseudo = codes "defpseudo"
spelling_of word.Device = codes "device"
spelling_of word.Attach = codes "attach"
spelling_of word.No = codes "no"
spelling_of word.Options = codes "options"
spelling_of word.MakeOptions = codes "makeoptions"
spelling_of word.FileSystem = codes "file-system"
spelling_of word.PseudoDevice = codes "pseudo-device"
spelling_of word.MaxUsers = codes "maxusers"
spelling_of word.MaxPartitions = codes "maxpartitions"
spelling_of word.Machine = codes "machine"
spelling_of word.Ident = codes "ident"
spelling_of word.Config = codes "config"
spelling_of word.DefFlag = codes "defflag"
spelling_of word.DefParam = codes "defparam"
spelling_of word.DefFs = codes "deffs"
spelling_of word.File = codes "file"
spelling_of word.DeviceMajor = codes "device-major"
spelling_of word.Version = codes "version"
spelling_of word.Obsolete = codes "obsolete"

-- a statement of any words, one at least
abbrev pub free_form : List ℕ → Bool → List Piece → Option Stmt
free_form word sized ps = given (nat_lt 0 (length ps)) (stmt.Free word ps)

-- the statement that the tokens behind a keyword are
abbrev pub form_by : Keyword → Bool → List Piece → Option Stmt
form_by word.Include = λ sized ps. option_map (λ path. stmt.Include path false) (alone path_of ps)
form_by word.CInclude = λ sized ps. option_map (λ path. stmt.Include path true) (alone path_of ps)
form_by word.Prefix = λ sized ps. prefix_stmt ps
form_by (word.Condition c) = λ sized ps. cond_form c ps
form_by word.Define = λ sized ps. defining sized stmt.Define ps
form_by word.DevClass = λ sized ps. option_map stmt.Class (alone name_of ps)
form_by word.DefPseudo = λ sized ps. defining sized stmt.DefPseudo ps
form_by word.Device = device_stmt
form_by word.Attach = λ sized ps. attach_stmt ps
form_by word.No = no_stmt
form_by word.Options = λ sized ps. option_map stmt.Options (each option_item (parted ps))
form_by word.MakeOptions = λ sized ps. option_map stmt.MakeOptions (each make_item (parted ps))
form_by word.FileSystem = λ sized ps. option_map stmt.FileSystems (names_of ps)
form_by word.PseudoDevice = pseudo_stmt
form_by word.MaxUsers = λ sized ps. checked (codes "maxusers") ((length ps == 1 || length ps == 3) && are_values sized ps)
form_by word.MaxPartitions = λ sized ps. checked (codes "maxpartitions") (length ps == 1 && are_values sized ps)
form_by word.Machine = λ sized ps. checked (codes "machine") (is_some (name_row ps))
form_by word.Ident = λ sized ps. checked (codes "ident") (is_some (alone path_of ps))
form_by word.Config = λ sized ps. checked (codes "config") (is_config ps)
form_by word.DefFlag = free_form (codes "defflag")
form_by word.DefParam = free_form (codes "defparam")
form_by word.DefFs = free_form (codes "deffs")
form_by word.File = free_form (codes "file")
form_by word.DeviceMajor = free_form (codes "device-major")
form_by word.Version = free_form (codes "version")
form_by word.Obsolete = free_form (codes "obsolete")

-- the row of a word
abbrev pub row_by : Keyword → TableRow
row_by keyword = row (spelling_of keyword) (form_by keyword)

-- the rows that begin with a word of their own
unfoldable pub table : List TableRow
table = map row_by KEYWORDS

-- the row of this word
abbrev pub row_of : List TableRow → Piece → Option TableRow
row_of [] p = None
row_of (r ∷ rows) p = if is_word r.word p then Some r else row_of rows p

-- the statement by its row; where the first word is none of the table's it is an instance
abbrev pub by_row : Bool → Option TableRow → Piece → List Piece → Option Stmt
by_row sized (Some r) p ps = r.form sized ps
by_row sized None p ps = inst_stmt sized (p ∷ ps)

-- the statement that these tokens are: with each number in its range, or, where sizes don't count, with 0 for those that aren't
unfoldable pub form_of : Bool → List Piece → Option Stmt
form_of sized [] = None
form_of sized (p ∷ ps) =
    if list_all (λ q. nat_le (length q.text) 1023) (p ∷ ps) then by_row sized (row_of table p) p ps else None

-- ---- the faults

-- statements of config(5) that this project leaves out
abbrev pub left_out_words : List (List ℕ)
left_out_words = codes "package" ∷ codes "object" ∷ codes "ioconf" ∷ codes "select" ∷ codes "pseudo-root" ∷ codes "buildprefix" ∷ []

-- a name that may be a locator's, of any length
abbrev pub may_name_locator : Piece → Bool
may_name_locator p = is_chunk p && is_name p.text && not (bytes_eq p.text (codes "flags"))

-- a string directly follows a name
abbrev pub has_named_text : List Piece → Bool
has_named_text (n ∷ t ∷ ps) = (may_name_locator n && is_text t) || has_named_text (t ∷ ps)
has_named_text _ = false

-- a string directly follows a name and `=`, or `[` directly follows a name
abbrev pub has_text_or_size : List Piece → Bool
has_text_or_size (n ∷ m ∷ ps) =
    (may_name_locator n && (is_mark (codes "[") m || (is_mark (codes "=") m && list_any is_text (take 1 ps)))) || has_text_or_size (m ∷ ps)
has_text_or_size _ = false

-- what stands between the first `{` and the next `}` or the end
abbrev pub braced : List Piece → List Piece
braced ps = before_first (is_mark (codes "}")) (after_first (is_mark (codes "{")) ps)

-- a statement that may have a list of locators
abbrev pub is_defining : Piece → Bool
is_defining p = is_among (codes "define" ∷ codes "defpseudo" ∷ codes "device" ∷ []) p

-- a statement that is left out, a locator with a string, or one with a size
unfoldable pub is_left_out : List Piece → Bool
is_left_out [] = false
is_left_out (p ∷ ps) =
    is_among left_out_words p
    || (is_chunk p && is_none (row_of table p) && has_named_text (drop 2 ps))
    || (is_defining p && has_text_or_size (braced ps))

-- what is left out, else what has no form, else what is out of its range, else none
unfoldable pub form_fault : List Piece → Option ℕ
form_fault ps =
    given (is_left_out ps) LEFT_OUT
    or (given (is_none (form_of false ps)) NO_FORM
    or given (is_none (form_of true ps)) OUT_OF_RANGE)

-- the tokens are the statement
abbrev pub Form : List Piece → Stmt → Type 0
Form ps s = (form_fault ps ≡ None) × (form_of true ps ≡ Some s)
