-- What statements without a code declare is sound.
use Rattle.std.proofs.Common.{◌≡◌, ℕ, ◌+◌, ◌<◌, ◌≤◌, Bool, true, false, ◌&&◌, ◌||◌, Option, Some, None, List, [], ◌∷◌, ◌++◌, length, get_or, take, map, refl, ap, sym, ◌∙◌, subst, arith}
use Rattle.std.specs.Prelude.{not, bytes_eq, slice_get, is_some, unwrap_or, count_by, if◌then◌else◌}
use Rattle.std.specs.List.{All, list_all}
use Rattle.std.specs.Option.{option_map_or}
use Rattle.std.proofs.lemmas.Bool.{or_parts, and_parts, not-false, ltb-false}
use Rattle.std.proofs.lemmas.List.{map_push, length-map}
use Rattle.std.proofs.lemmas.List.Elements.{All-cons}
use Rattle.cf_types.specs.declared.code.configuration.TheConstants.{LOCATOR_TWICE, NAME_TAKEN, NO_INTERFACE, SECOND_CLASS, TOO_MANY_INTERFACES, UNKNOWN_ATTRIBUTE, UNKNOWN_DEVICE}
use Rattle.config_rules.proofs.GivenLaws.{no_code, no_last, no_first}
use Rattle.cf_types.specs.declared.stmt.Placed.{Placed}
use Rattle.cf_types.specs.declared.stmt.Stmt.{Stmt}
use Rattle.cf_types.specs.declared.stmt.Stmt.TheVariants as stmt
use Rattle.cf_types.specs.declared.tables.Locator.{Locator}
use Rattle.cf_types.specs.declared.tables.Attr.{Attr}
use Rattle.cf_types.specs.declared.tables.Device.{Device}
use Rattle.cf_types.specs.declared.tables.Attach.{Attach}
use Rattle.cf_types.specs.declared.tables.Place.TheVariants.{Root, At}
use Rattle.cf_types.specs.Offers.{Node, AreEarlier, node_of, nodes_of, firsts, interfaces_of}
use Rattle.cf_types.specs.Lookups.{attr_named, attr_number, device_number, has_attach}
use Rattle.config_rules.specs.Form.{given, ◌or◌}
use Rattle.config_rules.specs.Declared.{Declared, attr, is_root, declared}
use Rattle.config_rules.specs.Fault.{is_instance, has_attr, has_device, attr_numbers, lacks_attr, repeats_locator, offers_too_much, has_classes, define_fault, device_fault, attach_fault, places_fault, code_of, fault_of, stmts_of}
use Rattle.cf_declare.specs.Declare.{place_named, declare}
use Rattle.cf_declare.specs.Settled.{Settled}
use Rattle.cf_declare.specs.Sound.{AreAttrs, IsOpen, NamesDiffer, SoundDeclared}
use Rattle.cf_declare.proofs.ListFacts.{all_from_none, position_within, find_place, with_nothing}
use Rattle.cf_declare.proofs.NameFacts.{differ_all}
use Rattle.cf_declare.proofs.OfferFacts.{offers_with, offers_new}
use Rattle.cf_declare.proofs.DeclareLaws.{same_declared}
use Rattle.cf_declare.proofs.SoundFacts.{open_new, offers_kept, attrs_more, sound_attr, sound_device, sound_attach}
use Rattle.cf_declare.proofs.FirstLaws.{declared_placed}

-- ---- what the absence of a code tells

-- the numbers of attributes that are declared
numbers_known : (d : Declared) (needs : List (List ℕ)) → list_all (has_attr d) needs ≡ true → AreAttrs d.attrs (attr_numbers d needs)
numbers_known d [] h = λ k x q. absurd (omega arith)
numbers_known d (name ∷ needs) h =
    let parts = and_parts (has_attr d name) (list_all (has_attr d) needs) h in
    All-cons (λ a. a < length d.attrs) (unwrap_or (attr_number d.attrs name) 0) (attr_numbers d needs)
    (position_within (λ a. bytes_eq a.name name) d.attrs parts.0) (numbers_known d needs parts.1)

-- the numbers that a statement names, where it lacks no attribute
needs_known : (d : Declared) (needs : List (List ℕ)) → lacks_attr d needs ≡ false → AreAttrs d.attrs (attr_numbers d needs)
needs_known d needs h = numbers_known d needs (all_from_none (has_attr d) needs h)

-- one place without a code is open, and the rest has none
place_open : (attrs : List Attr) (root : Bool) (a : Option Attr) (rest : Option ℕ) (number : ℕ)
    → ((if root then None else option_map_or (λ x. given (not x.iface) NO_INTERFACE) a (Some UNKNOWN_ATTRIBUTE)) or rest) ≡ None
    → ((x : Attr) → a ≡ Some x → slice_get attrs number ≡ Some x)
    → IsOpen attrs (if root then Root else At number) × (rest ≡ None)
place_open attrs true a rest number h at = (tt, h)
place_open attrs false None rest number h at = absurd (cc)
place_open attrs false (Some x) rest number h at =
    let parts = no_code (not x.iface) NO_INTERFACE rest h in
    (ap (λ o. option_map_or (λ y. y.iface) o false) (at x refl) ∙ not-false x.iface parts.0, parts.1)

-- places without a code are open
places_open : (d : Declared) (places : List (List ℕ)) → places_fault d places ≡ None → All (IsOpen d.attrs) (map (place_named d) places)
places_open d [] h = λ k x q. absurd (omega arith)
places_open d (place ∷ places) h =
    let parts = place_open d.attrs (is_root place) (attr_named d.attrs place) (places_fault d places) (unwrap_or (attr_number d.attrs place) 0) h (find_place (λ a. bytes_eq a.name place) d.attrs) in
    All-cons (IsOpen d.attrs) (place_named d place) (map (place_named d) places) parts.0 (places_open d places parts.1)

-- an attribute with braces counts as one
own_counts : (locs : Option (List Locator)) → ◌≡◌ {A = ℕ} (option_map_or (λ l. 1) locs 0) (if is_some locs then 1 else 0)
own_counts None = refl
own_counts (Some l) = refl

-- ---- one more statement

-- lists to which nothing is added
unchanged : (attrs more_attrs : List Attr) (devices more_devices : List Device) (attaches more_attaches : List Attach) → attrs ≡ more_attrs → devices ≡ more_devices → attaches ≡ more_attaches
    → SoundDeclared (record { attrs = attrs; devices = devices; attaches = attaches }) → SoundDeclared (record { attrs = more_attrs; devices = more_devices; attaches = more_attaches })
unchanged attrs more_attrs devices more_devices attaches more_attaches p q r s = subst (λ (d : Declared). SoundDeclared d) (same_declared attrs more_attrs devices more_devices attaches more_attaches p q r) s

-- an attribute alone
with_attr : (d : Declared) (x : Attr) → SoundDeclared (record { attrs = d.attrs ++ x ∷ []; devices = d.devices; attaches = d.attaches })
    → SoundDeclared (record { attrs = d.attrs ++ x ∷ []; devices = d.devices ++ []; attaches = d.attaches ++ [] })
with_attr d x s = unchanged (d.attrs ++ x ∷ []) (d.attrs ++ x ∷ []) d.devices (d.devices ++ []) d.attaches (d.attaches ++ []) refl (with_nothing d.devices) (with_nothing d.attaches) s

-- an attribute with locators and needs
define_sound : (d : Declared) (name : List ℕ) (pseudo : Bool) (locs : Option (List Locator)) (needs : List (List ℕ)) → SoundDeclared d → define_fault d name locs needs ≡ None
    → SoundDeclared (record { attrs = d.attrs ++ attr name (is_some locs) false pseudo (unwrap_or locs []) (attr_numbers d needs) ∷ []; devices = d.devices; attaches = d.attaches })
define_sound d name pseudo locs needs s h =
    let first = no_code (is_root name || has_attr d name) NAME_TAKEN _ h in
    let second = no_code (repeats_locator locs) LOCATOR_TWICE _ first.1 in
    let third = no_code (lacks_attr d needs) UNKNOWN_ATTRIBUTE _ second.1 in
    let short : option_map_or (λ l. 1) locs 0 + length (interfaces_of (nodes_of d.attrs) (attr_numbers d needs)) ≤ 64 = ltb-false 64 _ (no_last (offers_too_much d locs needs) TOO_MANY_INTERFACES third.1) in
    sound_attr d (attr name (is_some locs) false pseudo (unwrap_or locs []) (attr_numbers d needs)) s
    (needs_known d needs third.0)
    (differ_all (λ l. l.name) (unwrap_or locs []) second.0)
    (subst (λ (n : ℕ). n + length (interfaces_of (nodes_of d.attrs) (attr_numbers d needs)) ≤ 64) (own_counts locs) short)
    (or_parts (is_root name) (has_attr d name) first.0).1

-- where nothing is named, nothing is offered
no_interfaces : (nodes : List Node) → interfaces_of nodes [] ≡ []
unfolding interfaces_of firsts
no_interfaces nodes = refl

-- an attribute that names no other
alone_sound : (d : Declared) (name : List ℕ) (iface class : Bool) (locs : List Locator) → SoundDeclared d → NamesDiffer (λ l. l.name) locs → has_attr d name ≡ false
    → SoundDeclared (record { attrs = d.attrs ++ attr name iface class false locs [] ∷ []; devices = d.devices; attaches = d.attaches })
alone_sound d name iface class locs s differ new =
    let none : length (interfaces_of (nodes_of d.attrs) []) ≡ 0 = ap length (no_interfaces (nodes_of d.attrs)) in
    sound_attr d (attr name iface class false locs []) s (λ k x q. absurd (omega arith)) differ (at_most_one iface (length (interfaces_of (nodes_of d.attrs) [])) none) new
  where
    at_most_one : (b : Bool) (n : ℕ) → n ≡ 0 → (if b then 1 else 0) + n ≤ 64
    at_most_one true n e = omega arith
    at_most_one false n e = omega arith

-- the interface list of a device: its own attribute and those that it names
own_offers_few : (attrs : List Attr) (x : Attr) (needs : List ℕ) → AreEarlier (nodes_of attrs) → x.iface ≡ true → x.needs ≡ [] → AreAttrs attrs needs → 1 + length (interfaces_of (nodes_of attrs) needs) ≤ 64
    → length (interfaces_of (nodes_of (attrs ++ x ∷ [])) (length attrs ∷ needs)) ≤ 64
own_offers_few attrs x needs e iface alone known short =
    let nodes = nodes_of attrs in
    let size : length nodes ≡ length attrs = length-map attrs node_of in
    let none : All (λ b. b < length nodes) x.needs = subst (λ (ns : List ℕ). All (λ b. b < length nodes) ns) (sym alone) (λ k y q. absurd (omega arith)) in
    let own : length (interfaces_of (nodes ++ node_of x ∷ []) (length nodes ∷ [])) ≤ (if x.iface then 1 else 0) + length (interfaces_of nodes x.needs) = offers_new nodes e (node_of x) none in
    let one : ◌≡◌ {A = ℕ} (if x.iface then 1 else 0) 1 = ap (λ (b : Bool). if b then 1 else 0) iface in
    let empty : length (interfaces_of nodes x.needs) ≡ 0 = ap (λ ns. length (interfaces_of nodes ns)) alone ∙ ap length (no_interfaces nodes) in
    let same : length (interfaces_of (nodes_of (attrs ++ x ∷ [])) (length attrs ∷ [])) ≡ length (interfaces_of (nodes ++ node_of x ∷ []) (length nodes ∷ [])) =
    ap (λ ns. length (interfaces_of ns (length attrs ∷ []))) (map_push node_of attrs x) ∙ ap (λ k. length (interfaces_of (nodes ++ node_of x ∷ []) (k ∷ []))) (sym size) in
    let kept : length (interfaces_of (nodes_of (attrs ++ x ∷ [])) needs) ≡ length (interfaces_of nodes needs) = ap length (offers_kept attrs x e needs known) in
    let both : length (interfaces_of (nodes_of (attrs ++ x ∷ [])) (length attrs ∷ needs)) ≤ length (interfaces_of (nodes_of (attrs ++ x ∷ [])) (length attrs ∷ [])) + length (interfaces_of (nodes_of (attrs ++ x ∷ [])) needs) = offers_with (nodes_of (attrs ++ x ∷ [])) (length attrs) needs in
    omega arith

-- a device, with an attribute of its own where it has braces
device_sound : (d : Declared) (name : List ℕ) (locs : Option (List Locator)) (needs : List (List ℕ)) → SoundDeclared d → device_fault d name locs needs ≡ None → SoundDeclared (declare d (stmt.Device name locs needs))
device_sound d name None needs s h =
    let first = no_code (is_root name || has_device d name || (false && has_attr d name)) NAME_TAKEN _ h in
    let third = no_code (lacks_attr d needs) UNKNOWN_ATTRIBUTE _ (no_code (repeats_locator None) LOCATOR_TWICE _ first.1).1 in
    let fourth = no_code (has_classes d needs) SECOND_CLASS _ third.1 in
    let short : 0 + length (interfaces_of (nodes_of d.attrs) (attr_numbers d needs)) ≤ 64 = ltb-false 64 _ (no_last (offers_too_much d None needs) TOO_MANY_INTERFACES fourth.1) in
    let new = (or_parts (is_root name) (has_device d name) (or_parts (is_root name || has_device d name) _ first.0).0).1 in
    let x : Device = record { name = name; own = None; needs = attr_numbers d needs } in
    unchanged d.attrs (d.attrs ++ []) (d.devices ++ x ∷ []) (d.devices ++ x ∷ []) d.attaches (d.attaches ++ []) (with_nothing d.attrs) refl (with_nothing d.attaches)
    (sound_device d x s (record { names_attrs = needs_known d needs third.0; own_is_open = tt; offers_few = omega arith }) new)
device_sound d name (Some locs) needs s h =
    let first = no_code (is_root name || has_device d name || (true && has_attr d name)) NAME_TAKEN _ h in
    let second = no_code (repeats_locator (Some locs)) LOCATOR_TWICE _ first.1 in
    let third = no_code (lacks_attr d needs) UNKNOWN_ATTRIBUTE _ second.1 in
    let fourth = no_code (has_classes d needs) SECOND_CLASS _ third.1 in
    let short : 1 + length (interfaces_of (nodes_of d.attrs) (attr_numbers d needs)) ≤ 64 = ltb-false 64 _ (no_last (offers_too_much d (Some locs) needs) TOO_MANY_INTERFACES fourth.1) in
    let names = or_parts (is_root name || has_device d name) (has_attr d name) first.0 in
    let own : Attr = attr name true false false locs [] in
    let x : Device = record { name = name; own = Some (length d.attrs); needs = attr_numbers d needs } in
    let known = needs_known d needs third.0 in
    let with_own : Declared = record { attrs = d.attrs ++ own ∷ []; devices = d.devices; attaches = d.attaches } in
    unchanged (d.attrs ++ own ∷ []) (d.attrs ++ own ∷ []) (d.devices ++ x ∷ []) (d.devices ++ x ∷ []) d.attaches (d.attaches ++ []) refl refl (with_nothing d.attaches)
    (sound_device with_own x (alone_sound d name true false locs s (differ_all (λ l. l.name) locs second.0) names.1)
    (record {
      names_attrs = attrs_more d.attrs own (attr_numbers d needs) known;
      own_is_open = open_new d.attrs own;
      offers_few = own_offers_few d.attrs own (attr_numbers d needs) s.needs_are_earlier refl refl known short;
    })
    (or_parts (is_root name) (has_device d name) names.0).1)

-- an attachment
attach_sound : (d : Declared) (device : List ℕ) (places : List (List ℕ)) (name : Option (List ℕ)) (needs : List (List ℕ)) → SoundDeclared d → attach_fault d device places (unwrap_or name device) needs ≡ None
    → SoundDeclared (declare d (stmt.Attach device places name needs))
attach_sound d device places name needs s h =
    let own = unwrap_or name device in
    let first = no_code (not (has_device d device)) UNKNOWN_DEVICE _ h in
    let second = no_first (places_fault d places) _ first.1 in
    let third = no_code (is_root own || has_attach d.attaches own) NAME_TAKEN _ second.1 in
    let x : Attach = record { name = own; device = unwrap_or (device_number d.devices device) 0; places = map (place_named d) places; needs = attr_numbers d needs } in
    unchanged d.attrs (d.attrs ++ []) d.devices (d.devices ++ []) (d.attaches ++ x ∷ []) (d.attaches ++ x ∷ []) (with_nothing d.attrs) (with_nothing d.devices) refl
    (sound_attach d x s
    (record {
      has_device = position_within (λ y. bytes_eq y.name device) d.devices (not-false (has_device d device) first.0);
      places_are_open = places_open d places second.0;
      names_attrs = needs_known d needs (no_last (lacks_attr d needs) UNKNOWN_ATTRIBUTE third.1);
    })
    (or_parts (is_root own) (has_attach d.attaches own) third.0).1)

-- declarations stay sound with a statement that has no code
pub sound_more : (d : Declared) (n : ℕ) (s : Stmt) → SoundDeclared d → code_of d n s ≡ None → SoundDeclared (declare d s)
sound_more d n (stmt.Define name locs needs) s h = with_attr d _ (define_sound d name false locs needs s h)
sound_more d n (stmt.Class name) s h =
    with_attr d _ (alone_sound d name false true [] s (λ i j x p q. absurd (omega arith)) (or_parts (is_root name) (has_attr d name) (no_last (is_root name || has_attr d name) NAME_TAKEN h)).1)
sound_more d n (stmt.DefPseudo name locs needs) s h = with_attr d _ (define_sound d name true locs needs s h)
sound_more d n (stmt.Device name locs needs) s h = device_sound d name locs needs s h
sound_more d n (stmt.Attach device places name needs) s h = attach_sound d device places name needs s h
sound_more d n _ s h =
    unchanged d.attrs (d.attrs ++ []) d.devices (d.devices ++ []) d.attaches (d.attaches ++ []) (with_nothing d.attrs) (with_nothing d.devices) (with_nothing d.attaches) s

-- and so along the placed statements
pub sound_placed : (placed : List Placed) (i : ℕ) (p : Placed) → i < length placed → p ≡ get_or placed i p
    → Settled (stmts_of (take i placed)) → fault_of (stmts_of (take i placed)) p.stmt ≡ None
    → SoundDeclared (declared (stmts_of (take i placed))) → SoundDeclared (declared (stmts_of (take (i + 1) placed)))
unfolding fault_of
sound_placed placed i p h is settled accepted s =
    let before = stmts_of (take i placed) in
    subst (λ (d : Declared). SoundDeclared d) (sym (declared_placed placed i p h is settled accepted)) (sound_more (declared before) (count_by is_instance before) p.stmt s accepted)
