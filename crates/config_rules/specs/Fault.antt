-- The first fault of a statement after those before it, and of a configuration. The codes and the order in which they
-- are looked for are this project's profile.
use Rattle.std.specs.Prelude.{◌≡◌, ℕ, ◌+◌, Bool, true, false, not, ◌&&◌, ◌||◌, nat_lt, nat_le, if◌then◌else◌, List, [], ◌∷◌, ◌++◌, length, map, filter, count_by, slice_index_or, slice_get, bytes_eq, Option, Some, None, is_some, option_map, unwrap_or, Result, Ok, Err}
use Rattle.std.specs.List.{list_any}
use Rattle.std.specs.Option.{option_map_or}
use Rattle.cf_types.specs.declared.code.configuration.TheConstants.{UNKNOWN_ATTRIBUTE, NO_INTERFACE, UNKNOWN_DEVICE, LOCATOR_TWICE, NAME_TAKEN, SECOND_CLASS, TOO_MANY_INSTANCES, TOO_MANY_INTERFACES}
use Rattle.cf_types.specs.declared.stmt.AtSpec.{AtSpec}
use Rattle.cf_types.specs.declared.stmt.GivenLoc.{GivenLoc}
use Rattle.cf_types.specs.declared.stmt.Placed.{Placed}
use Rattle.cf_types.specs.declared.stmt.Stmt.{Stmt}
use Rattle.cf_types.specs.declared.stmt.Stmt.TheVariants as stmt
use Rattle.cf_types.specs.declared.tables.Locator.{Locator}
use Rattle.cf_types.specs.declared.tables.Refusal.{Refusal}
use Rattle.config_rules.specs.Form.{given, ◌or◌}
use Rattle.config_rules.specs.Reading.{Files, Reading, reading}
use Rattle.config_rules.specs.Declared.{Declared, declared, is_root, numbers_by}
use Rattle.cf_types.specs.Offers.{nodes_of, interfaces_of, firsts}
use Rattle.cf_types.specs.Lookups.{attr_named, attr_number, device_number, has_attach}
use Rattle.config_rules.specs.Joined.{join}

-- ---- words of the table

-- a name that is given twice
abbrev pub repeats : List (List ℕ) → Bool
repeats [] = false
repeats (name ∷ names) = list_any (λ n. bytes_eq n name) names || repeats names

-- a locator that is given twice in a list
abbrev pub repeats_locator : Option (List Locator) → Bool
repeats_locator locs = repeats (map (λ l. l.name) (unwrap_or locs []))

-- an attribute has this name
abbrev pub has_attr : Declared → List ℕ → Bool
has_attr d name = is_some (attr_number d.attrs name)

-- a device has this name
abbrev pub has_device : Declared → List ℕ → Bool
has_device d name = is_some (device_number d.devices name)

-- one of these names is no attribute
abbrev pub lacks_attr : Declared → List (List ℕ) → Bool
lacks_attr d names = list_any (λ name. not (has_attr d name)) names

-- the numbers of these attributes
abbrev pub attr_numbers : Declared → List (List ℕ) → List ℕ
attr_numbers d = numbers_by (attr_number d.attrs)

-- an interface list of its own attribute, where there is one, and those of these names would be too long
abbrev pub offers_too_much : Declared → Option (List Locator) → List (List ℕ) → Bool
offers_too_much d locs needs = nat_lt 64 (option_map_or (λ l. 1) locs 0 + length (interfaces_of (nodes_of d.attrs) (attr_numbers d needs)))

-- the attribute is a device class
abbrev pub is_class : Declared → ℕ → Bool
is_class d a = option_map_or (λ x. x.class) (slice_get d.attrs a) false

-- two device classes
abbrev pub has_classes : Declared → List (List ℕ) → Bool
has_classes d needs = nat_lt 1 (length (firsts (filter (is_class d) (attr_numbers d needs))))

-- a device instance
abbrev pub is_instance : Stmt → Bool
is_instance (stmt.Inst base mark at pairs flags) = true
is_instance _ = false

-- the attribute of this name is that of a pseudo-device
abbrev pub is_pseudo : Declared → List ℕ → Bool
is_pseudo d name = option_map_or (λ x. x.pseudo) (attr_named d.attrs name) false

-- ---- the codes of each statement, in the order in which they are looked for

-- an attribute with locators and needs
abbrev pub define_fault : Declared → List ℕ → Option (List Locator) → List (List ℕ) → Option ℕ
define_fault d name locs needs =
    given (is_root name || has_attr d name) NAME_TAKEN
    or (given (repeats_locator locs) LOCATOR_TWICE
    or (given (lacks_attr d needs) UNKNOWN_ATTRIBUTE
    or given (offers_too_much d locs needs) TOO_MANY_INTERFACES))

-- a device; only one with braces needs its name to be free among the attributes
abbrev pub device_fault : Declared → List ℕ → Option (List Locator) → List (List ℕ) → Option ℕ
device_fault d name locs needs =
    given (is_root name || has_device d name || (is_some locs && has_attr d name)) NAME_TAKEN
    or (given (repeats_locator locs) LOCATOR_TWICE
    or (given (lacks_attr d needs) UNKNOWN_ATTRIBUTE
    or (given (has_classes d needs) SECOND_CLASS
    or given (offers_too_much d locs needs) TOO_MANY_INTERFACES)))

-- a place that is unknown, or no interface attribute
abbrev pub place_fault : Declared → List ℕ → Option ℕ
place_fault d place =
    if is_root place then None else option_map_or (λ a. given (not a.iface) NO_INTERFACE) (attr_named d.attrs place) (Some UNKNOWN_ATTRIBUTE)

-- the places in order
abbrev pub places_fault : Declared → List (List ℕ) → Option ℕ
places_fault d [] = None
places_fault d (place ∷ places) = place_fault d place or places_fault d places

-- an attachment: its device, its places, its name, its attributes
abbrev pub attach_fault : Declared → List ℕ → List (List ℕ) → List ℕ → List (List ℕ) → Option ℕ
attach_fault d device places name needs =
    given (not (has_device d device)) UNKNOWN_DEVICE
    or (places_fault d places
    or (given (is_root name || has_attach d.attaches name) NAME_TAKEN
    or given (lacks_attr d needs) UNKNOWN_ATTRIBUTE))

-- the code of a result
abbrev pub err_of : {A : Type 0} → Result A ℕ → Option ℕ
err_of (Ok x) = None
err_of (Err code) = Some code

-- a device class
abbrev pub class_fault : Declared → List ℕ → Option ℕ
class_fault d name = given (is_root name || has_attr d name) NAME_TAKEN

-- an instance behind so many others
abbrev pub instance_fault : Declared → ℕ → List ℕ → AtSpec → List GivenLoc → Option ℕ
instance_fault d instances base at pairs = given (nat_le 8192 instances) TOO_MANY_INSTANCES or err_of (join d base at pairs)

-- a pseudo-device
abbrev pub pseudo_fault : Declared → List ℕ → Option ℕ
pseudo_fault d name = given (not (is_pseudo d name)) UNKNOWN_DEVICE

-- the first code of a statement after what was declared and so many instances
abbrev pub code_of : Declared → ℕ → Stmt → Option ℕ
code_of d instances (stmt.Define name locs needs) = define_fault d name locs needs
code_of d instances (stmt.Class name) = class_fault d name
code_of d instances (stmt.DefPseudo name locs needs) = define_fault d name locs needs
code_of d instances (stmt.Device name locs needs) = device_fault d name locs needs
code_of d instances (stmt.Attach device places name needs) = attach_fault d device places (unwrap_or name device) needs
code_of d instances (stmt.Inst base mark at pairs flags) = instance_fault d instances base at pairs
code_of d instances (stmt.PseudoDevice name count) = pseudo_fault d name
code_of d instances _ = None

-- the first code that a statement has after those before it
unfoldable pub fault_of : List Stmt → Stmt → Option ℕ
fault_of before s = code_of (declared before) (count_by is_instance before) s

-- ---- the first fault of a configuration

-- the statements without their places
abbrev pub stmts_of : List Placed → List Stmt
stmts_of placed = map (λ p. p.stmt) placed

-- a code at the file and line of a statement
abbrev pub refusal : List (List ℕ) → Placed → ℕ → Refusal
refusal files p code = record { file = slice_index_or files p.file []; line = p.line; code = code }

-- the first of these statements, after those before, that has a code
abbrev pub first_code : List (List ℕ) → List Stmt → List Placed → Option Refusal
first_code files before [] = None
first_code files before (p ∷ placed) =
    option_map (refusal files p) (fault_of before p.stmt) or first_code files (before ++ p.stmt ∷ []) placed

-- of the statements that are placed, or else the one before which the reading ended
unfoldable pub fault_in : Reading → Option Refusal
fault_in r = first_code r.files [] r.placed or r.fault

-- the first fault of a configuration in reading order
unfoldable pub first_fault : Files → List ℕ → Option Refusal
first_fault files name = fault_in (reading files name)

-- a configuration without a fault
abbrev pub Accepted : Files → List ℕ → Type 0
Accepted files name = first_fault files name ≡ None
