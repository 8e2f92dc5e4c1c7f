-- The lines of a listing: each is of one line, and none is the head of a history.
use Rattle.std.proofs.Common.{◌≡◌, ℕ, ◌+◌, nat_lt, cond, List, [], ◌∷◌, ◌++◌, length, map, decimal, Option, Some, None, refl}
use Rattle.std.specs.Prelude.{ℤ, All, IfSome, codes, slice_get}
use Rattle.std.specs.Fmt.{signed_decimal}
use Rattle.std.specs.List.{AllByRecursion, enumerate_from}
use Rattle.std.specs.Option.{option_map_or}
use Rattle.std.proofs.lemmas.List.Elements.{All-head, All-nil, All-tail}
use Rattle.cf_types.proofs.ListLemmas.{all_at}
use Rattle.cf_types.specs.Locators.{locators_at}
use Rattle.cf_types.specs.Offers.{interfaces}
use Rattle.cf_types.specs.declared.stmt.Item.{Item}
use Rattle.cf_types.specs.declared.tables.Attach.{Attach}
use Rattle.cf_types.specs.declared.tables.Attr.{Attr}
use Rattle.cf_types.specs.declared.tables.Device.{Device}
use Rattle.cf_types.specs.declared.tables.Locator.{Locator}
use Rattle.cf_types.specs.declared.tables.ParentSpec.{ParentSpec}
use Rattle.cf_types.specs.declared.tables.Place.{Place}
use Rattle.cf_types.specs.declared.tables.Place.TheVariants.{Root, At}
use Rattle.cf_types.specs.declared.tables.Pseudo.{Pseudo}
use Rattle.cf_types.specs.declared.tables.Row.{Row}
use Rattle.cf_types.specs.declared.tables.Tables.{Tables}
use Rattle.cf_types.specs.declared.tables.WarnKind.{WarnKind}
use Rattle.cf_types.specs.declared.tables.WarnKind.TheVariants as warns
use Rattle.cf_types.specs.declared.tables.Warning.{Warning}
use Rattle.config_rules.specs.Formed.{FormedTables}
use Rattle.config_rules.specs.Listing.{at_text, attach_line, attach_name, attr_line, attr_name, default_text, definition_lines, device_line, device_name, driver_lines, end_lines, file_system_line, instance_lines, item_line, item_value, kind_text, lines, locator_name, locator_text, offers_text, option_lines, parent_text, place_name, pseudo_line, rest_lines, row_head, row_line, row_name, row_tail, spaced, tail_lines, unit_text, value_text, values_text, warning_line}
use Rattle.config_rules.proofs.Parts.{cond_both}
use Rattle.run_rules.specs.Reread.{format_of}
use Rattle.run_sound.proofs.Callers.{all_append}
use Rattle.replay_laws.specs.OneLine.{AreOneLine, IsItemLine, IsOneLine}
use Rattle.replay_laws.proofs.Names.{named_line, names_line}
use Rattle.replay_laws.proofs.OneLine.{decimal_line, joined, joined_3, joined_4, signed_line}

-- a line that no history begins with
pub record IsPassed (line : List ℕ) : Type 0 where
  pub one : IsOneLine line
  pub no_head : format_of line ≡ None

each_of : {A : Type 0} (P : List ℕ → Type 0) (f : A → List ℕ) (xs : List A) → ((x : A) → P (f x)) → AllByRecursion P (map f xs)
each_of P f [] h = tt
each_of P f (x ∷ xs) h = (h x, each_of P f xs h)

-- what holds of things is told of their lines, also of those with numbers
each_with : {A : Type 0} (P : List ℕ → Type 0) (Q : A → Type 0) (f : A → List ℕ) (xs : List A) → ((x : A) → Q x → P (f x)) → All Q xs → AllByRecursion P (map f xs)
each_with P Q f [] h all = tt
each_with P Q f (x ∷ xs) h all = (h x (All-head Q x xs all), each_with P Q f xs h (All-tail Q x xs all))

each_numbered : {A : Type 0} (P : List ℕ → Type 0) (Q : A → Type 0) (f : ℕ × A → List ℕ) (n : ℕ) (xs : List A) → ((i : ℕ) (x : A) → Q x → P (f (i, x))) → All Q xs
    → AllByRecursion P (map f (enumerate_from n xs))
each_numbered P Q f n [] h all = tt
each_numbered P Q f n (x ∷ xs) h all = (h n x (All-head Q x xs all), each_numbered P Q f (n + 1) xs h (All-tail Q x xs all))

spaced_line : (words : List (List ℕ)) → AllByRecursion IsOneLine words → IsOneLine (spaced words)
spaced_line [] h = refl
spaced_line (w ∷ words) h = joined (32 ∷ w) (spaced words) h.0 (spaced_line words h.1)

-- ---- names

attr_named : (t : Tables) (a : ℕ) → FormedTables t → IsOneLine (attr_name t a)
attr_named t a formed = named_line (λ x. x.name) t.attrs a (names_line (λ x. x.name) t.attrs formed.attr_names.shaped)

device_named : (t : Tables) (d : ℕ) → FormedTables t → IsOneLine (device_name t d)
device_named t d formed = named_line (λ x. x.name) t.devices d (names_line (λ x. x.name) t.devices formed.device_names.shaped)

attach_named : (t : Tables) (a : ℕ) → FormedTables t → IsOneLine (attach_name t a)
attach_named t a formed = named_line (λ x. x.name) t.attaches a (names_line (λ x. x.name) t.attaches formed.attach_names.shaped)

place_named : (t : Tables) (p : Place) → FormedTables t → IsOneLine (place_name t p)
place_named t Root formed = refl
place_named t (At a) formed = attr_named t a formed

-- ---- definitions

default_line : (l : Locator) (v : ℤ) → IsOneLine l.name → IsOneLine (default_text l v)
default_line l v h =
    cond_both IsOneLine l.optional (codes "[" ++ l.name ++ codes "=" ++ signed_decimal v ++ codes "]") (l.name ++ codes "=" ++ signed_decimal v)
    (λ _. joined (codes "[" ++ l.name ++ codes "=" ++ signed_decimal v) (codes "]") (joined_4 (codes "[") l.name (codes "=") (signed_decimal v) refl h refl (signed_line v)) refl)
    (λ _. joined_3 l.name (codes "=") (signed_decimal v) h refl (signed_line v))

locator_line : (l : Locator) → IsOneLine l.name → IsOneLine (locator_text l)
locator_line l h = by l.default
  where
    by : (o : Option ℤ) → IsOneLine (option_map_or (default_text l) o l.name)
    by None = h
    by (Some v) = default_line l v h

attr_passed : (a : Attr) → IsOneLine a.name → All (λ l. IsOneLine l.name) a.locs → IsPassed (attr_line a)
attr_passed a h locs =
    cond_both IsPassed a.iface (codes "iattr " ++ a.name ++ spaced (map locator_text a.locs)) (codes "attr " ++ a.name)
    (λ _. record {
      one = joined_3 (codes "iattr ") a.name (spaced (map locator_text a.locs)) refl h (spaced_line (map locator_text a.locs) (each_with IsOneLine (λ l. IsOneLine l.name) locator_text a.locs locator_line locs));
      no_head = refl;
    })
    (λ _. record { one = joined (codes "attr ") a.name refl h; no_head = refl })

offers_line : (t : Tables) (offered : List ℕ) → FormedTables t → IsOneLine (offers_text t offered)
offers_line t offered formed =
    cond_both IsOneLine (nat_lt 0 (length offered)) (codes " offers" ++ spaced (map (attr_name t) offered)) []
    (λ _. joined (codes " offers") (spaced (map (attr_name t) offered)) refl (spaced_line (map (attr_name t) offered) (each_of IsOneLine (attr_name t) offered (λ a. attr_named t a formed)))) (λ _. refl)

device_passed : (t : Tables) (i : ℕ) (d : Device) → FormedTables t → IsOneLine d.name → IsPassed (device_line t (i, d))
device_passed t i d formed h = record {
  one = joined_3 (codes "device ") d.name (offers_text t (interfaces t.attrs t.devices i)) refl h (offers_line t (interfaces t.attrs t.devices i) formed);
  no_head = refl;
}

attach_passed : (t : Tables) (a : Attach) → FormedTables t → IsOneLine a.name → IsPassed (attach_line t a)
attach_passed t a formed h = record {
  one =
      joined_3 (codes "attach " ++ a.name ++ codes " of " ++ device_name t a.device) (codes " at") (spaced (map (place_name t) a.places))
      (joined_4 (codes "attach ") a.name (codes " of ") (device_name t a.device) refl h refl (device_named t a.device formed)) refl
      (spaced_line (map (place_name t) a.places) (each_of IsOneLine (place_name t) a.places (λ p. place_named t p formed)));
  no_head = refl;
}

-- ---- rows

unit_line : (o : Option ℕ) → IsOneLine (unit_text o)
unit_line None = refl
unit_line (Some unit) = decimal_line unit

parent_line : (t : Tables) (a : ℕ) (p : Option ParentSpec) → FormedTables t → IsOneLine (parent_text t a p)
parent_line t a None formed = joined (attr_name t a) (codes "?") (attr_named t a formed) refl
parent_line t a (Some p) formed = joined (device_name t p.device) (unit_text p.unit) (device_named t p.device formed) (unit_line p.unit)

at_line : (t : Tables) (p : Place) (parent : Option ParentSpec) → FormedTables t → IsOneLine (at_text t p parent)
at_line t Root parent formed = refl
at_line t (At a) parent formed = parent_line t a parent formed

row_named : (t : Tables) (r : Row) → FormedTables t → IsOneLine (row_name t r)
row_named t r formed =
    joined (device_name t r.device) (cond r.star (codes "* from " ++ decimal r.unit) (decimal r.unit)) (device_named t r.device formed)
    (cond_both IsOneLine r.star (codes "* from " ++ decimal r.unit) (decimal r.unit) (λ _. joined (codes "* from ") (decimal r.unit) refl (decimal_line r.unit)) (λ _. decimal_line r.unit))

abbrev AreNamedLocators : List Locator → Type 0
AreNamedLocators locs = All (λ l. IsOneLine l.name) locs

locators_named : (t : Tables) (p : Place) → AreOneLine t → AreNamedLocators (locators_at t.attrs p)
locators_named t Root words = All-nil (λ l. IsOneLine l.name)
locators_named t (At a) words = by (slice_get t.attrs a) (λ x is. all_at (λ x. AreNamedLocators x.locs) t.attrs a x words.locators is)
  where
    by : (o : Option Attr) → ((x : Attr) → o ≡ Some x → AreNamedLocators x.locs) → AreNamedLocators (option_map_or (λ x. x.locs) o [])
    by None h = All-nil (λ l. IsOneLine l.name)
    by (Some x) h = h x refl

value_line : (locs : List Locator) (e : ℕ × ℤ) → AreNamedLocators locs → IsOneLine (value_text locs e)
value_line locs e h = joined_3 (locator_name locs e.0) (codes "=") (signed_decimal e.1) (named_line (λ l. l.name) locs e.0 h) refl (signed_line e.1)

values_line : (t : Tables) (r : Row) → AreOneLine t → AllByRecursion IsOneLine (values_text t r)
values_line t r words =
    each_of IsOneLine (value_text (locators_at t.attrs r.place)) (enumerate_from 0 r.locs) (λ e. value_line (locators_at t.attrs r.place) e (locators_named t r.place words))

head_line : (t : Tables) (i : ℕ) (r : Row) → FormedTables t → IsOneLine (row_head t (i, r))
head_line t i r formed =
    joined_3 (codes "row " ++ decimal i ++ codes " " ++ row_name t r) (codes " at ") (at_text t r.place r.parent)
    (joined_4 (codes "row ") (decimal i) (codes " ") (row_name t r) refl (decimal_line i) refl (row_named t r formed)) refl (at_line t r.place r.parent formed)

tail_line : (t : Tables) (r : Row) → FormedTables t → AreOneLine t → IsOneLine (row_tail t r)
tail_line t r formed words =
    joined_4 (codes " by " ++ attach_name t r.attach ++ codes " on " ++ place_name t r.place) (spaced (values_text t r)) (codes " flags ") (signed_decimal r.flags)
    (joined_4 (codes " by ") (attach_name t r.attach) (codes " on ") (place_name t r.place) refl (attach_named t r.attach formed) refl (place_named t r.place formed))
    (spaced_line (values_text t r) (values_line t r words)) refl (signed_line r.flags)

row_passed : (t : Tables) (e : ℕ × Row) → FormedTables t → AreOneLine t → IsPassed (row_line t e)
row_passed t e formed words = record { one = joined (row_head t e) (row_tail t e.1) (head_line t e.0 e.1 formed) (tail_line t e.1 formed words); no_head = refl }

-- ---- the others

pseudo_passed : (p : Pseudo) → IsOneLine p.name → IsPassed (pseudo_line p)
pseudo_passed p h = record { one = joined_4 (codes "pseudo ") p.name (codes " ") (decimal p.count) refl h refl (decimal_line p.count); no_head = refl }

item_valued : (i : Item) → IsItemLine i → IsOneLine (item_value i)
item_valued i h = by i.value h.1
  where
    by : (o : Option (List ℕ)) → IfSome o IsOneLine → IsOneLine (option_map_or (λ v. cond i.plus (codes "+=") (codes "=") ++ v) o [])
    by None value = refl
    by (Some v) value = joined (cond i.plus (codes "+=") (codes "=")) v (cond_both IsOneLine i.plus (codes "+=") (codes "=") (λ _. refl) (λ _. refl)) value

item_one : (word : List ℕ) (i : Item) → IsOneLine word → IsItemLine i → IsOneLine (item_line word i)
item_one word i w h = joined_4 word (codes " ") i.name (item_value i) w refl h.0 (item_valued i h)

option_passed : (i : Item) → IsItemLine i → IsPassed (item_line (codes "options") i)
option_passed i h = record { one = item_one (codes "options") i refl h; no_head = refl }

makeoption_passed : (i : Item) → IsItemLine i → IsPassed (item_line (codes "makeoptions") i)
makeoption_passed i h = record { one = item_one (codes "makeoptions") i refl h; no_head = refl }

file_system_passed : (name : List ℕ) → IsOneLine name → IsPassed (file_system_line name)
file_system_passed name h = record { one = joined (codes "file-system ") name refl h; no_head = refl }

kind_line : (k : WarnKind) → IsOneLine (kind_text k)
kind_line warns.Nothing = refl
kind_line warns.Orphan = refl

warning_passed : (w : Warning) → IsOneLine w.file → IsPassed (warning_line w)
warning_passed w h = record {
  one =
      joined_3 (codes "warning " ++ w.file ++ codes ":" ++ decimal w.line) (codes " ") (kind_text w.kind)
      (joined_4 (codes "warning ") w.file (codes ":") (decimal w.line) refl h refl (decimal_line w.line)) refl (kind_line w.kind);
  no_head = refl;
}

-- ---- the listing

definitions_passed : (t : Tables) → FormedTables t → AreOneLine t → AllByRecursion IsPassed (definition_lines t)
definitions_passed t formed words =
    all_append IsPassed (map attr_line t.attrs) (driver_lines t) (attrs_passed t.attrs (names_line (λ a. a.name) t.attrs formed.attr_names.shaped) words.locators)
    (all_append IsPassed (map (device_line t) (enumerate_from 0 t.devices)) (map (attach_line t) t.attaches)
    (each_numbered IsPassed (λ d. IsOneLine d.name) (device_line t) 0 t.devices (λ i d h. device_passed t i d formed h) (names_line (λ d. d.name) t.devices formed.device_names.shaped))
    (each_with IsPassed (λ a. IsOneLine a.name) (attach_line t) t.attaches (λ a h. attach_passed t a formed h) (names_line (λ a. a.name) t.attaches formed.attach_names.shaped)))
  where
    attrs_passed : (attrs : List Attr) → All (λ a. IsOneLine a.name) attrs → All (λ a. AreNamedLocators a.locs) attrs → AllByRecursion IsPassed (map attr_line attrs)
    attrs_passed [] names locs = tt
    attrs_passed (a ∷ attrs) names locs = (
      attr_passed a (All-head (λ a. IsOneLine a.name) a attrs names) (All-head (λ a. AreNamedLocators a.locs) a attrs locs),
      attrs_passed attrs (All-tail (λ a. IsOneLine a.name) a attrs names) (All-tail (λ a. AreNamedLocators a.locs) a attrs locs),
    )

instances_passed : (t : Tables) → FormedTables t → AreOneLine t → AllByRecursion IsPassed (instance_lines t)
instances_passed t formed words =
    all_append IsPassed (map (row_line t) (enumerate_from 0 t.rows)) (map pseudo_line t.pseudos) (rows_passed 0 t.rows)
    (each_with IsPassed (λ p. IsOneLine p.name) pseudo_line t.pseudos pseudo_passed words.pseudos)
  where
    rows_passed : (n : ℕ) (rows : List Row) → AllByRecursion IsPassed (map (row_line t) (enumerate_from n rows))
    rows_passed n [] = tt
    rows_passed n (r ∷ rows) = (row_passed t (n, r) formed words, rows_passed (n + 1) rows)

ends_passed : (t : Tables) → AreOneLine t → AllByRecursion IsPassed (end_lines t)
ends_passed t words =
    all_append IsPassed (option_lines t) (rest_lines t)
    (all_append IsPassed (map (item_line (codes "options")) t.options) (map (item_line (codes "makeoptions")) t.makeoptions)
    (each_with IsPassed IsItemLine (item_line (codes "options")) t.options option_passed words.options)
    (each_with IsPassed IsItemLine (item_line (codes "makeoptions")) t.makeoptions makeoption_passed words.makeoptions))
    (all_append IsPassed (map file_system_line t.file_systems) (map warning_line t.warnings)
    (each_with IsPassed IsOneLine file_system_line t.file_systems file_system_passed words.file_systems)
    (each_with IsPassed (λ w. IsOneLine w.file) warning_line t.warnings warning_passed words.warnings))

pub listed_passed : (t : Tables) → FormedTables t → AreOneLine t → AllByRecursion IsPassed (lines t)
listed_passed t formed words = (
  record { one = refl; no_head = refl },
  all_append IsPassed (definition_lines t) (tail_lines t) (definitions_passed t formed words)
      (all_append IsPassed (instance_lines t) (end_lines t) (instances_passed t formed words) (ends_passed t words)),
)
