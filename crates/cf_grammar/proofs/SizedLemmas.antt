-- Words that are a statement with each number in its range are one where sizes don't count, too.
use Rattle.std.proofs.Common.{◌≡◌, ℕ, ◌==◌, Bool, true, false, cond, ◌&&◌, ◌||◌, Option, Some, None, List, [], ◌∷◌, length, refl}
use Rattle.std.specs.Prelude.{ℤ, pos, nat_le, codes, is_some, nat_abs, int_le, option_and_then, option_map}
use Rattle.std.specs.List.{list_all}
use Rattle.cf_types.specs.declared.keyword.Keyword.{Keyword}
use Rattle.cf_types.specs.declared.keyword.Keyword.TheVariants as word
use Rattle.cf_types.specs.declared.stmt.AtSpec.{AtSpec}
use Rattle.cf_types.specs.declared.stmt.AtSpec.TheVariants.{Root, Named}
use Rattle.cf_types.specs.declared.stmt.GivenLoc.{GivenLoc}
use Rattle.cf_types.specs.declared.stmt.Piece.{Piece}
use Rattle.cf_types.specs.declared.stmt.Stmt.{Stmt}
use Rattle.cf_types.specs.declared.stmt.Stmt.TheVariants as stmt
use Rattle.cf_types.specs.declared.stmt.UnitMark.{UnitMark}
use Rattle.cf_types.specs.declared.stmt.UnitMark.TheVariants.{Fixed, Star}
use Rattle.cf_types.specs.declared.tables.Locator.{Locator}
use Rattle.cf_text.specs.Shapes.{ends_with_digit, in_range, number, base_and_unit}
use Rattle.config_rules.specs.Form.{◌or◌, are_values, at_place, by_row, count_of, defining, device_stmt, each, fixed_of, form_by, form_of, given, given_value, inst_stmt, is_chunk, is_mark, is_word, locator, locator_name, locator_of, locators_of, marked_of, name_of, needs_of, no_inst, no_stmt, pair_of, pairs_of, parted, parted_at, place_of, pseudo_stmt, row_by, row_of, table, unit_chunk, value_of, with_body, with_default, fitted}
use Rattle.cf_grammar.specs.Keywords.{keyword_in}
use Rattle.cf_grammar.proofs.FormLemmas.{row_is}

-- ---- the second is the first where the first is there

then_same : {A B : Type 0} (f g : A → Option B) (a b : Option A) → ((x : A) → a ≡ Some x → b ≡ Some x)
    → ((x : A) (y : B) → f x ≡ Some y → g x ≡ Some y) → (y : B) → option_and_then f a ≡ Some y → option_and_then g b ≡ Some y
then_same f g None b h k y e = cc
then_same f g (Some x) b h k y e = rw (h x refl) (k x y e)

map_same : {A B : Type 0} (f : A → B) (a b : Option A) → ((x : A) → a ≡ Some x → b ≡ Some x) → (y : B) → option_map f a ≡ Some y → option_map f b ≡ Some y
map_same f None b h y e = cc
map_same f (Some x) b h y e = rw (h x refl) e

if_same : {A : Type 0} (test : Bool) (a b : Option A) → ((x : A) → a ≡ Some x → b ≡ Some x) → (y : A) → cond test a None ≡ Some y → cond test b None ≡ Some y
if_same true a b h y e = h y e
if_same false a b h y e = e

or_same : {A : Type 0} (o a b : Option A) → ((x : A) → a ≡ Some x → b ≡ Some x) → (y : A) → (o or a) ≡ Some y → (o or b) ≡ Some y
or_same None a b h y e = h y e
or_same (Some x) a b h y e = e

each_same : {A B : Type 0} (f g : A → Option B) → ((x : A) (y : B) → f x ≡ Some y → g x ≡ Some y) → (xs : List A) (ys : List B) → each f xs ≡ Some ys → each g xs ≡ Some ys
each_same f g k [] ys e = e
each_same f g k (x ∷ xs) ys e =
    then_same (λ y. option_map (λ zs. y ∷ zs) (each f xs)) (λ y. option_map (λ zs. y ∷ zs) (each g xs)) (f x) (g x) (k x)
    (λ y zs. map_same (λ zs. y ∷ zs) (each f xs) (each g xs) (each_same f g k xs) zs) ys e

fitted_same : {A : Type 0} (fits : Bool) (x z y : A) → fitted true fits x z ≡ Some y → fitted false fits x z ≡ Some y
fitted_same true x z y e = e
fitted_same false x z y e = cc

-- a chunk's value that has to fit
chunk_same : {A : Type 0} (chunk : Bool) (fits : A → Bool) (zero_of : A → A) (o : Option A) (y : A)
    → cond chunk (option_and_then (λ x. fitted true (fits x) x (zero_of x)) o) None ≡ Some y
    → cond chunk (option_and_then (λ x. fitted false (fits x) x (zero_of x)) o) None ≡ Some y
chunk_same false fits zero_of o y e = e
chunk_same true fits zero_of None y e = e
chunk_same true fits zero_of (Some x) y e = fitted_same (fits x) x (zero_of x) y e

value_same : (p : Piece) (v : ℤ) → value_of true p ≡ Some v → value_of false p ≡ Some v
value_same p v e = chunk_same (is_chunk p) in_range (λ _. pos 0) (number p.text) v e

with_default_same : (optional : Bool) (n equals v : Piece) (l : Locator) → with_default true optional n equals v ≡ Some l → with_default false optional n equals v ≡ Some l
with_default_same optional n equals v l e =
    if_same (is_mark (codes "=") equals)
    (option_and_then (λ name. option_map (λ value. locator name (Some value) optional) (value_of true v)) (locator_name n))
    (option_and_then (λ name. option_map (λ value. locator name (Some value) optional) (value_of false v)) (locator_name n))
    (λ l e. then_same (λ name. option_map (λ value. locator name (Some value) optional) (value_of true v)) (λ name. option_map (λ value. locator name (Some value) optional) (value_of false v))
    (locator_name n) (locator_name n) (λ name e. e)
    (λ name l. map_same (λ value. locator name (Some value) optional) (value_of true v) (value_of false v) (value_same v) l) l e) l e

locator_same : (ps : List Piece) (l : Locator) → locator_of true ps ≡ Some l → locator_of false ps ≡ Some l
locator_same [] l e = e
locator_same (n ∷ []) l e = e
locator_same (n ∷ q ∷ []) l e = e
locator_same (n ∷ equals ∷ v ∷ []) l e = with_default_same false n equals v l e
locator_same (n ∷ q ∷ r ∷ s ∷ []) l e = e
locator_same (first ∷ n ∷ equals ∷ v ∷ last ∷ []) l e =
    if_same (is_mark (codes "[") first && is_mark (codes "]") last) (with_default true true n equals v) (with_default false true n equals v) (with_default_same true n equals v) l e
locator_same (n ∷ q ∷ r ∷ s ∷ t ∷ u ∷ ps) l e = e

locators_same : (ps : List Piece) (ls : List Locator) → locators_of true ps ≡ Some ls → locators_of false ps ≡ Some ls
locators_same [] ls e = e
locators_same (p ∷ ps) ls e =
    then_same (λ locs. given (nat_le (length locs) 16) locs) (λ locs. given (nat_le (length locs) 16) locs)
    (each (locator_of true) (parted (p ∷ ps))) (each (locator_of false) (parted (p ∷ ps)))
    (each_same (locator_of true) (locator_of false) locator_same (parted (p ∷ ps))) (λ x y e. e) ls e

given_same : (v : Piece) (x : Option ℤ) → given_value true v ≡ Some x → given_value false v ≡ Some x
given_same v x e =
    or_same (given (is_word (codes "?") v) None) (option_map (λ value. Some value) (value_of true v)) (option_map (λ value. Some value) (value_of false v))
    (map_same (λ value. Some value) (value_of true v) (value_of false v) (value_same v)) x e

pair_same : (n v : Piece) (x : GivenLoc) → pair_of true n v ≡ Some x → pair_of false n v ≡ Some x
pair_same n v x e =
    then_same (λ name. option_map (λ value. record { name = name; value = value }) (given_value true v)) (λ name. option_map (λ value. record { name = name; value = value }) (given_value false v))
    (name_of n) (name_of n) (λ name e. e)
    (λ name x. map_same (λ value. record { name = name; value = value }) (given_value true v) (given_value false v) (given_same v) x) x e

-- ---- the second is there where the first is

there : {A : Type 0} (a b : Option A) → ((x : A) → a ≡ Some x → b ≡ Some x) → true ≡ is_some a → true ≡ is_some b
there None b h e = cc
there (Some x) b h e = rw (h x refl) refl

map_there : {A B : Type 0} (f g : A → B) (a b : Option A) → (true ≡ is_some a → true ≡ is_some b) → true ≡ is_some (option_map f a) → true ≡ is_some (option_map g b)
map_there f g None b h e = cc
map_there f g (Some x) (Some y) h e = refl
map_there f g (Some x) None h e = h refl

then_there : {A B : Type 0} (f g : A → Option B) (a b : Option A) → (true ≡ is_some a → true ≡ is_some b) → ((x y : A) → true ≡ is_some (f x) → true ≡ is_some (g y))
    → true ≡ is_some (option_and_then f a) → true ≡ is_some (option_and_then g b)
then_there f g None b h k e = cc
then_there f g (Some x) (Some y) h k e = k x y e
then_there f g (Some x) None h k e = h refl

-- on the same value
with_there : {A B : Type 0} (f g : A → Option B) (a : Option A) → ((x : A) → true ≡ is_some (f x) → true ≡ is_some (g x))
    → true ≡ is_some (option_and_then f a) → true ≡ is_some (option_and_then g a)
with_there f g None k e = e
with_there f g (Some x) k e = k x e

if_there : {A : Type 0} (test : Bool) (a b c d : Option A) → (true ≡ is_some a → true ≡ is_some b) → (true ≡ is_some c → true ≡ is_some d)
    → true ≡ is_some (cond test a c) → true ≡ is_some (cond test b d)
if_there true a b c d h k e = h e
if_there false a b c d h k e = k e

or_there : {A : Type 0} (a b c : Option A) → (true ≡ is_some a → true ≡ is_some b) → true ≡ is_some (a or c) → true ≡ is_some (b or c)
or_there a (Some y) c h e = refl
or_there (Some x) None c h e = let lost = h refl in cc
or_there None None c h e = e

given_there : {A : Type 0} (a b : Bool) (x : A) → (true ≡ a → true ≡ b) → true ≡ is_some (given a x) → true ≡ is_some (given b x)
given_there false b x h e = cc
given_there true true x h e = refl
given_there true false x h e = h refl

and_there : (a b c : Bool) → (true ≡ b → true ≡ c) → true ≡ (a && b) → true ≡ (a && c)
and_there true b c h e = h e
and_there false b c h e = e

fitted_there : {A : Type 0} (fits : Bool) (x z : A) → true ≡ is_some (fitted false fits x z)
fitted_there true x z = refl
fitted_there false x z = refl

value_there : (p : Piece) → true ≡ is_some (value_of true p) → true ≡ is_some (value_of false p)
value_there p = there (value_of true p) (value_of false p) (value_same p)

both_there : (a b c d : Bool) → (true ≡ a → true ≡ b) → (true ≡ c → true ≡ d) → true ≡ (a && c) → true ≡ (b && d)
both_there true true c d h k e = k e
both_there true false c d h k e = h refl
both_there false b c d h k e = cc

values_there : (ps : List Piece) → true ≡ are_values true ps → true ≡ are_values false ps
values_there [] e = e
values_there (p ∷ ps) e =
    both_there (is_some (value_of true p)) (is_some (value_of false p)) (are_values true ps) (are_values false ps) (value_there p) (values_there ps) e

count_there : (p : Piece) → true ≡ is_some (count_of true p) → true ≡ is_some (count_of false p)
count_there p e =
    then_there (λ v. fitted true (int_le (pos 1) v && int_le v (pos 65535)) (nat_abs v) 0) (λ v. fitted false (int_le (pos 1) v && int_le v (pos 65535)) (nat_abs v) 0)
    (value_of true p) (value_of false p) (value_there p) (λ x y e. fitted_there (int_le (pos 1) y && int_le y (pos 65535)) (nat_abs y) 0) e

pseudo_there : (ps : List Piece) → true ≡ is_some (pseudo_stmt true ps) → true ≡ is_some (pseudo_stmt false ps)
pseudo_there [] e = e
pseudo_there (n ∷ []) e = e
pseudo_there (n ∷ v ∷ []) e =
    with_there (λ name. option_map (stmt.PseudoDevice name) (count_of true v)) (λ name. option_map (stmt.PseudoDevice name) (count_of false v)) (name_of n)
    (λ name e. map_there (stmt.PseudoDevice name) (stmt.PseudoDevice name) (count_of true v) (count_of false v) (count_there v) e) e
pseudo_there (n ∷ v ∷ p ∷ ps) e = e

body_there : (make : Option (List Locator) → List (List ℕ) → Stmt) (ps : List Piece) → true ≡ is_some (with_body true make ps) → true ≡ is_some (with_body false make ps)
body_there make [] e = e
body_there make (p ∷ ps) e =
    if_there (is_mark (codes "{") p) (braced true) (braced false) (option_map (make None) (needs_of (p ∷ ps))) (option_map (make None) (needs_of (p ∷ ps)))
    (λ e. with_there (λ parts. behind parts true) (λ parts. behind parts false) (parted_at (codes "}") ps)
    (λ parts e. then_there (λ locs. option_map (make (Some locs)) (needs_of parts.1)) (λ locs. option_map (make (Some locs)) (needs_of parts.1))
    (locators_of true parts.0) (locators_of false parts.0) (there (locators_of true parts.0) (locators_of false parts.0) (locators_same parts.0))
    (λ x y e. map_there (make (Some x)) (make (Some y)) (needs_of parts.1) (needs_of parts.1) (λ e. e) e) e) e)
    (λ e. e) e
  where
    behind : List Piece × List Piece → Bool → Option Stmt
    behind parts sized = option_and_then (λ locs. option_map (make (Some locs)) (needs_of parts.1)) (locators_of sized parts.0)

    braced : Bool → Option Stmt
    braced sized = option_and_then (λ parts. option_and_then (λ locs. option_map (make (Some locs)) (needs_of parts.1)) (locators_of sized parts.0)) (parted_at (codes "}") ps)

defining_there : (make : List ℕ → Option (List Locator) → List (List ℕ) → Stmt) (ps : List Piece) → true ≡ is_some (defining true make ps) → true ≡ is_some (defining false make ps)
defining_there make [] e = e
defining_there make (n ∷ ps) e = with_there (λ name. with_body true (make name) ps) (λ name. with_body false (make name) ps) (name_of n) (λ name e. body_there (make name) ps e) e

device_there : (ps : List Piece) → true ≡ is_some (device_stmt true ps) → true ≡ is_some (device_stmt false ps)
device_there [] e = e
device_there (n ∷ ps) e = if_there (ends_with_digit n.text) None None (defining true stmt.Device (n ∷ ps)) (defining false stmt.Device (n ∷ ps)) (λ e. e) (defining_there stmt.Device (n ∷ ps)) e

fixed_there : (p : Piece) → true ≡ is_some (fixed_of true p) → true ≡ is_some (fixed_of false p)
fixed_there p = there (fixed_of true p) (fixed_of false p) (λ x e. chunk_same (is_chunk p) (λ u. nat_le u.1 65535) (λ u. (u.0, 0)) (base_and_unit p.text) x e)

unit_there : (p : Piece) → true ≡ is_some (unit_chunk true p) → true ≡ is_some (unit_chunk false p)
unit_there p e =
    or_there (option_map (λ u. (u.0, Fixed u.1)) (fixed_of true p)) (option_map (λ u. (u.0, Fixed u.1)) (fixed_of false p)) (option_map (λ base. (base, Star)) (marked_of 42 p))
    (map_there (λ u. (u.0, Fixed u.1)) (λ u. (u.0, Fixed u.1)) (fixed_of true p) (fixed_of false p) (fixed_there p)) e

place_there : (p : Piece) → true ≡ is_some (place_of true p) → true ≡ is_some (place_of false p)
place_there p e = behind (is_word (codes "root") p) e
  where
    behind : (test : Bool) → true ≡ is_some (given test Root or (option_map (λ u. Named u.0 (Some u.1)) (fixed_of true p) or option_map (λ base. Named base None) (marked_of 63 p)))
        → true ≡ is_some (given test Root or (option_map (λ u. Named u.0 (Some u.1)) (fixed_of false p) or option_map (λ base. Named base None) (marked_of 63 p)))
    behind true e = e
    behind false e =
        or_there (option_map (λ u. Named u.0 (Some u.1)) (fixed_of true p)) (option_map (λ u. Named u.0 (Some u.1)) (fixed_of false p)) (option_map (λ base. Named base None) (marked_of 63 p))
        (map_there (λ u. Named u.0 (Some u.1)) (λ u. Named u.0 (Some u.1)) (fixed_of true p) (fixed_of false p) (fixed_there p)) e

-- no pair, and these flags
abbrev flagged : ℤ → List GivenLoc × ℤ
flagged value = ([], value)

flags_there : (last : Bool) (x y : ℤ) → true ≡ is_some (given last (flagged x)) → true ≡ is_some (given last (flagged y))
flags_there true x y e = refl
flags_there false x y e = cc

abbrev paired : GivenLoc → List GivenLoc × ℤ → List GivenLoc × ℤ
paired pair rest = (pair ∷ rest.0, rest.1)

pairs_there : (ps : List Piece) → true ≡ is_some (pairs_of true ps) → true ≡ is_some (pairs_of false ps)
pairs_there [] e = e
pairs_there (n ∷ []) e = e
pairs_there (n ∷ v ∷ ps) e =
    if_there (is_word (codes "flags") n) (option_and_then (λ value. given (length ps == 0) (flagged value)) (value_of true v)) (option_and_then (λ value. given (length ps == 0) (flagged value)) (value_of false v))
    (option_and_then (λ pair. option_map (paired pair) (pairs_of true ps)) (pair_of true n v)) (option_and_then (λ pair. option_map (paired pair) (pairs_of false ps)) (pair_of false n v))
    (then_there (λ value. given (length ps == 0) (flagged value)) (λ value. given (length ps == 0) (flagged value)) (value_of true v) (value_of false v) (value_there v)
    (λ x y e. flags_there (length ps == 0) x y e))
    (then_there (λ pair. option_map (paired pair) (pairs_of true ps)) (λ pair. option_map (paired pair) (pairs_of false ps)) (pair_of true n v) (pair_of false n v)
    (there (pair_of true n v) (pair_of false n v) (pair_same n v))
    (λ x y e. map_there (paired x) (paired y) (pairs_of true ps) (pairs_of false ps) (pairs_there ps) e)) e

inst_there : (ps : List Piece) → true ≡ is_some (inst_stmt true ps) → true ≡ is_some (inst_stmt false ps)
inst_there [] e = e
inst_there (u ∷ []) e = e
inst_there (u ∷ at ∷ []) e = e
inst_there (u ∷ at ∷ x ∷ ps) e = if_there (is_word (codes "at") at) (joined true) (joined false) None None
    (λ e. then_there (placed true) (placed false) (unit_chunk true u) (unit_chunk false u) (unit_there u)
    (λ unit other e. then_there (given_at true unit) (given_at false other) (place_of true x) (place_of false x) (place_there x)
    (λ place where_else e. map_there (λ rest. stmt.Inst unit.0 unit.1 place rest.0 rest.1) (λ rest. stmt.Inst other.0 other.1 where_else rest.0 rest.1) (pairs_of true ps) (pairs_of false ps) (pairs_there ps) e) e) e)
    (λ e. e) e
  where
    given_at : Bool → List ℕ × UnitMark → AtSpec → Option Stmt
    given_at sized unit place = option_map (λ rest. stmt.Inst unit.0 unit.1 place rest.0 rest.1) (pairs_of sized ps)

    placed : Bool → List ℕ × UnitMark → Option Stmt
    placed sized unit = option_and_then (given_at sized unit) (place_of sized x)

    joined : Bool → Option Stmt
    joined sized = option_and_then (placed sized) (unit_chunk sized u)

at_there : (ps : List Piece) → true ≡ is_some (at_place true ps) → true ≡ is_some (at_place false ps)
at_there [] e = e
at_there (at ∷ []) e = e
at_there (at ∷ x ∷ []) e = if_there (is_word (codes "at") at) (place_of true x) (place_of false x) None None (place_there x) (λ e. e) e
at_there (at ∷ x ∷ p ∷ ps) e = e

no_inst_there : (base other : List ℕ) (mark another : UnitMark) (ps : List Piece) → true ≡ is_some (no_inst true base mark ps) → true ≡ is_some (no_inst false other another ps)
no_inst_there base other mark another [] e = refl
no_inst_there base other mark another (p ∷ ps) e =
    map_there (λ at. stmt.NoInst base mark (Some at)) (λ at. stmt.NoInst other another (Some at)) (at_place true (p ∷ ps)) (at_place false (p ∷ ps)) (at_there (p ∷ ps)) e

no_there : (ps : List Piece) → true ≡ is_some (no_stmt true ps) → true ≡ is_some (no_stmt false ps)
no_there [] e = e
no_there (p ∷ ps) e =
    past (is_word (codes "options") p) _ _ _ (past (is_word (codes "makeoptions") p) _ _ _ (past (is_word (codes "file-system") p) _ _ _ (past (is_word (codes "pseudo-device") p) _ _ _
    (if_there (is_word (codes "device") p) (option_map stmt.NoDevice (at_place true ps)) (option_map stmt.NoDevice (at_place false ps))
    (option_and_then (λ u. no_inst true u.0 u.1 ps) (unit_chunk true p)) (option_and_then (λ u. no_inst false u.0 u.1 ps) (unit_chunk false p))
    (map_there stmt.NoDevice stmt.NoDevice (at_place true ps) (at_place false ps) (at_there ps))
    (then_there (λ u. no_inst true u.0 u.1 ps) (λ u. no_inst false u.0 u.1 ps) (unit_chunk true p) (unit_chunk false p) (unit_there p)
    (λ x y e. no_inst_there x.0 y.0 x.1 y.1 ps e)))))) e
  where
    past : (test : Bool) (a b c : Option Stmt) → (true ≡ is_some b → true ≡ is_some c) → true ≡ is_some (cond test a b) → true ≡ is_some (cond test a c)
    past test a b c h e = if_there test a a b c (λ e. e) h e

-- what is behind a keyword
by_there : (k : Keyword) (ps : List Piece) → true ≡ is_some (form_by k true ps) → true ≡ is_some (form_by k false ps)
by_there word.Include ps e = e
by_there word.CInclude ps e = e
by_there word.Prefix ps e = e
by_there (word.Condition c) ps e = e
by_there word.Define ps e = defining_there stmt.Define ps e
by_there word.DevClass ps e = e
by_there word.DefPseudo ps e = defining_there stmt.DefPseudo ps e
by_there word.Device ps e = device_there ps e
by_there word.Attach ps e = e
by_there word.No ps e = no_there ps e
by_there word.Options ps e = e
by_there word.MakeOptions ps e = e
by_there word.FileSystem ps e = e
by_there word.PseudoDevice ps e = pseudo_there ps e
by_there word.MaxUsers ps e =
    given_there ((length ps == 1 || length ps == 3) && are_values true ps) ((length ps == 1 || length ps == 3) && are_values false ps) (stmt.Checked (codes "maxusers"))
    (and_there (length ps == 1 || length ps == 3) (are_values true ps) (are_values false ps) (values_there ps)) e
by_there word.MaxPartitions ps e =
    given_there (length ps == 1 && are_values true ps) (length ps == 1 && are_values false ps) (stmt.Checked (codes "maxpartitions"))
    (and_there (length ps == 1) (are_values true ps) (are_values false ps) (values_there ps)) e
by_there word.Machine ps e = e
by_there word.Ident ps e = e
by_there word.Config ps e = e
by_there word.DefFlag ps e = e
by_there word.DefParam ps e = e
by_there word.DefFs ps e = e
by_there word.File ps e = e
by_there word.DeviceMajor ps e = e
by_there word.Version ps e = e
by_there word.Obsolete ps e = e

row_there : (found : Option Keyword) (p : Piece) (ps : List Piece) → true ≡ is_some (by_row true (option_map row_by found) p ps) → true ≡ is_some (by_row false (option_map row_by found) p ps)
row_there (Some k) p ps e = by_there k ps e
row_there None p ps e = inst_there (p ∷ ps) e

-- a statement whose numbers are in their ranges has a form whatever its numbers
pub form_there : (ps : List Piece) → true ≡ is_some (form_of true ps) → true ≡ is_some (form_of false ps)
unfolding form_of
form_there [] e = e
form_there (p ∷ ps) e = if_there (list_all (λ q. nat_le (length q.text) 1023) (p ∷ ps)) (by_row true (row_of table p) p ps) (by_row false (row_of table p) p ps) None None by_found (λ e. e) e
  where
    by_found : true ≡ is_some (by_row true (row_of table p) p ps) → true ≡ is_some (by_row false (row_of table p) p ps)
    by_found = rw (row_is p (keyword_in p) refl) (row_there (keyword_in p) p ps)
