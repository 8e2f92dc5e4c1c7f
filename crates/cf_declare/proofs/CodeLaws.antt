-- What a statement without a code tells of the names that it gives.
use Rattle.std.proofs.Common.{◌≡◌, ℕ, Bool, true, false, ◌&&◌, ◌||◌, Option, Some, None, List, [], ◌∷◌, refl, ap, sym, ◌∙◌}
use Rattle.std.specs.Prelude.{not, bytes_eq, is_some, if◌then◌else◌}
use Rattle.std.specs.List.{list_all}
use Rattle.std.specs.Option.{option_map_or}
use Rattle.std.proofs.lemmas.Bool.{and_from, or_parts, not-false}
use Rattle.cf_types.specs.declared.code.configuration.TheConstants.{LOCATOR_TWICE, NAME_TAKEN, NO_INTERFACE, UNKNOWN_ATTRIBUTE, UNKNOWN_DEVICE}
use Rattle.config_rules.proofs.GivenLaws.{no_code, no_last, no_first}
use Rattle.cf_types.specs.declared.stmt.Stmt.{Stmt}
use Rattle.cf_types.specs.declared.stmt.Stmt.TheVariants as stmt
use Rattle.cf_types.specs.declared.tables.Attr.{Attr}
use Rattle.cf_types.specs.Lookups.{attr_named}
use Rattle.config_rules.specs.Form.{given, ◌or◌}
use Rattle.config_rules.specs.Declared.{Declared, is_root, attr_name}
use Rattle.config_rules.specs.Fault.{has_attr, has_device, lacks_attr, places_fault, code_of}
use Rattle.cf_declare.proofs.ListFacts.{position_found, find_found, all_from_none}

-- a statement names attributes and devices that are declared; a place may also be the root
abbrev pub names_declared : Declared → Stmt → Bool
names_declared d (stmt.Define name locs needs) = list_all (has_attr d) needs
names_declared d (stmt.DefPseudo name locs needs) = list_all (has_attr d) needs
names_declared d (stmt.Device name locs needs) = list_all (has_attr d) needs
names_declared d (stmt.Attach device places name needs) =
    has_device d device && (list_all (λ place. is_root place || has_attr d place) places && list_all (has_attr d) needs)
names_declared d _ = true

-- one place without a code is the root or an attribute, and the rest has none
place_if : (root : Bool) (a : Option Attr) (rest : Option ℕ) → ((if root then None else option_map_or (λ x. given (not x.iface) NO_INTERFACE) a (Some UNKNOWN_ATTRIBUTE)) or rest) ≡ None → ((root || is_some a) ≡ true) × (rest ≡ None)
place_if true a rest h = (refl, h)
place_if false None rest h = absurd (cc)
place_if false (Some x) rest h = (refl, (no_code (not x.iface) NO_INTERFACE rest h).1)

-- an attribute of this name is found by its number or as it is
pub found_either : (d : Declared) (name : List ℕ) → is_some (attr_named d.attrs name) ≡ has_attr d name
found_either d name = find_found (λ a. bytes_eq a.name name) d.attrs ∙ sym (position_found (λ a. bytes_eq a.name name) d.attrs)

-- so with all places
places_known : (d : Declared) (places : List (List ℕ)) → places_fault d places ≡ None → list_all (λ place. is_root place || has_attr d place) places ≡ true
places_known d [] h = refl
places_known d (place ∷ places) h =
    let parts = place_if (is_root place) (attr_named d.attrs place) (places_fault d places) h in
    and_from (is_root place || has_attr d place) _ (ap (λ b. is_root place || b) (sym (found_either d place)) ∙ parts.0) (places_known d places parts.1)

-- a statement without a code names what is declared
pub accepted_names : (d : Declared) (n : ℕ) (s : Stmt) → code_of d n s ≡ None → names_declared d s ≡ true
accepted_names d n (stmt.Define name locs needs) h =
    all_from_none (has_attr d) needs (no_code (lacks_attr d needs) UNKNOWN_ATTRIBUTE _ (no_code _ LOCATOR_TWICE _ (no_code _ NAME_TAKEN _ h).1).1).0
accepted_names d n (stmt.DefPseudo name locs needs) h =
    all_from_none (has_attr d) needs (no_code (lacks_attr d needs) UNKNOWN_ATTRIBUTE _ (no_code _ LOCATOR_TWICE _ (no_code _ NAME_TAKEN _ h).1).1).0
accepted_names d n (stmt.Device name locs needs) h =
    all_from_none (has_attr d) needs (no_code (lacks_attr d needs) UNKNOWN_ATTRIBUTE _ (no_code _ LOCATOR_TWICE _ (no_code _ NAME_TAKEN _ h).1).1).0
accepted_names d n (stmt.Attach device places name needs) h =
    let first = no_code (not (has_device d device)) UNKNOWN_DEVICE _ h in
    let second = no_first (places_fault d places) _ first.1 in
    and_from (has_device d device) _ (not-false (has_device d device) first.0)
    (and_from (list_all (λ place. is_root place || has_attr d place) places) _ (places_known d places second.0)
    (all_from_none (has_attr d) needs (no_last (lacks_attr d needs) UNKNOWN_ATTRIBUTE (no_code _ NAME_TAKEN _ second.1).1)))
accepted_names d n _ h = refl

-- the attribute that it adds has a name that none has
pub accepted_new : (d : Declared) (n : ℕ) (s : Stmt) (name : List ℕ) → code_of d n s ≡ None → attr_name s ≡ Some name → has_attr d name ≡ false
accepted_new d n (stmt.Define own locs needs) name h e =
    let same : own ≡ name = cc in
    ap (has_attr d) (sym same) ∙ (or_parts (is_root own) (has_attr d own) (no_code _ NAME_TAKEN _ h).0).1
accepted_new d n (stmt.Class own) name h e =
    let same : own ≡ name = cc in
    ap (has_attr d) (sym same) ∙ (or_parts (is_root own) (has_attr d own) (no_last _ NAME_TAKEN h)).1
accepted_new d n (stmt.DefPseudo own locs needs) name h e =
    let same : own ≡ name = cc in
    ap (has_attr d) (sym same) ∙ (or_parts (is_root own) (has_attr d own) (no_code _ NAME_TAKEN _ h).0).1
accepted_new d n (stmt.Device own None needs) name h e = absurd (cc)
accepted_new d n (stmt.Device own (Some locs) needs) name h e =
    let same : own ≡ name = cc in
    ap (has_attr d) (sym same) ∙ (or_parts (is_root own || has_device d own) (has_attr d own) (no_code _ NAME_TAKEN _ h).0).1
accepted_new d n _ name h e = absurd (cc)
